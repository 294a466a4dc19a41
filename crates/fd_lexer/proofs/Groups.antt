-- Physical lines form logical lines.
use Rattle.std.proofs.Common.{◌≡◌, ℕ, ◌+◌, ◌<◌, ◌≤◌, true, false, List, [], ◌∷◌, ◌++◌, length, refl, sym, ap, ◌∙◌, append_assoc, arith}
use Rattle.std.specs.List.{AllByRecursion}
use Rattle.fd_base.specs.declared.numbering.Line.{Line}
use Rattle.fd_lexer.specs.declared.token.Token.{Token}
use Rattle.fd_lexer.specs.declared.faults.Faults.{Faults}
use Rattle.fd_lexer.specs.declared.faults.LogicalLine.{LogicalLine}
use Rattle.fd_lexer.specs.declared.place.Place.{Place}
use Rattle.fd_lexer.specs.declared.place.PhysicalLine.{PhysicalLine}
use Rattle.fd_lexer.specs.Physical.{Physical, continued}
use Rattle.fd_lexer.specs.Logical.{groups, number_of, end_of, next_of}
use Rattle.fd_lexer.specs.Place.{counted_of, physical_of, IsNextLine}
use Rattle.fd_lexer.specs.Faults.{SeesMore, cause_of, IsChain, IsLogical}
use Rattle.fd_lexer.proofs.Joined.{IsSummed, summed_more, cause_tells}

abbrev pub GoesOn : Physical → Type 0
GoesOn p = continued p.bytes ≡ true

-- the lines that go on, and the one that doesn't, are the first logical line
groups_close : (front : List Physical) (p : Physical) (ps : List Physical) → AllByRecursion GoesOn front → continued p.bytes ≡ false → groups (front ++ p ∷ ps) ≡ (front ++ p ∷ []) ∷ groups ps
groups_close [] p ps h e = rw e refl
groups_close (q ∷ front) p ps h e = rw (h.0, groups_close front p ps h.1 e) refl

-- where no line is left the logical line ends
groups_end : (front : List Physical) (p : Physical) → AllByRecursion GoesOn front → continued p.bytes ≡ true → groups (front ++ p ∷ []) ≡ (front ++ p ∷ []) ∷ []
groups_end [] p h e = rw e refl
groups_end (q ∷ front) p h e = rw (h.0, groups_end front p h.1 e) refl

all_push : (front : List Physical) (p : Physical) → AllByRecursion GoesOn front → GoesOn p → AllByRecursion GoesOn (front ++ p ∷ [])
all_push [] p h e = (e, tt)
all_push (q ∷ front) p h e = (h.0, all_push front p h.1 e)

number_push : (front : List Physical) (p q : Physical) → number_of ((front ++ p ∷ []) ++ q ∷ []) ≡ number_of (front ++ p ∷ [])
number_push [] p q = refl
number_push (r ∷ front) p q = refl

end_push : (front : List Physical) (p : Physical) → end_of (front ++ p ∷ []) ≡ p.start + length p.bytes
end_push [] p = refl
end_push (q ∷ []) p = refl
end_push (q ∷ (r ∷ front)) p = end_push (r ∷ front) p

next_push : (front : List Physical) (p : Physical) → next_of (front ++ p ∷ []) ≡ p.next
next_push [] p = refl
next_push (q ∷ []) p = refl
next_push (q ∷ (r ∷ front)) p = next_push (r ∷ front) p

chain_push : (from to : ℕ) (front : List Physical) (p : Physical) (next : ℕ) → IsChain from front to → to ≤ p.start → p.start + length p.bytes ≤ p.next → p.next ≤ next → IsChain from (front ++ p ∷ []) next
chain_push from to [] p next c h g n = (omega (arith, c, h), g, n)
chain_push from to (q ∷ front) p next c h g n = (c.0, c.1, chain_push q.next to front p next c.2 h g n)

-- the lines before this one go on, and were seen
pub record IsJoining (place : Place) (number : Line) (old : List Token) (l : PhysicalLine) (here : Place) (f : Faults) (items : List Token) : Type 0 where
  pub front : List Physical
  pub lines : counted_of place ≡ front ++ physical_of l ∷ counted_of here
  pub goes_on : AllByRecursion GoesOn front
  pub summed : IsSummed number front old items f
  pub number_is : number ≡ number_of (front ++ physical_of l ∷ [])
  pub to : ℕ
  pub chain : IsChain place.at front to
  pub chained : to ≤ l.start
  pub bytes : l.start + length l.bytes.now ≤ l.next
  pub next : l.next ≡ here.at
  pub size : f.size ≤ l.start
  pub all : here.at + length here.rest.now ≡ place.at + length place.rest.now
  pub shorter : length here.rest.now < length place.rest.now
  pub numbers : here.number ≤ here.at + 1

pub joining_first : (place here : Place) (l : PhysicalLine) (old : List Token) (f : Faults) → IsNextLine place l here → IsSummed (record { 0 = l.number }) [] old old f → f.size ≡ 0 → IsJoining place (record { 0 = l.number }) old l here f old
joining_first place here l old f n s z = record {
  front = [];
  lines = n.counted;
  goes_on = tt;
  summed = s;
  number_is = refl;
  to = place.at;
  chain = omega arith;
  chained = n.between.from;
  bytes = n.between.bytes;
  next = n.between.to;
  size = omega (arith, z);
  all = n.between.all;
  shorter = n.between.shorter;
  numbers = n.between.numbers;
}

module _ (place : Place) (number : Line) (old : List Token) (l : PhysicalLine) (here : Place) (f : Faults) (items : List Token) (j : IsJoining place number old l here f items) (new : List Token) (g : Faults) (m : SeesMore number f l items new g) where
  whole : List Physical
  whole = j.front ++ physical_of l ∷ []

  summed : IsSummed number whole old new g
  unfolding whole
  summed = summed_more number j.front old items new f g l j.summed m

  chain_all : IsChain place.at whole here.at
  unfolding whole
  chain_all = chain_push place.at j.to j.front (physical_of l) here.at j.chain j.chained j.bytes (omega (arith, j.next))

  pub joining_more : (next : PhysicalLine) (behind : Place) → continued l.bytes.now ≡ true → IsNextLine here next behind → IsJoining place number old next behind g new
  unfolding whole
  joining_more next behind e n = record {
    front = j.front ++ physical_of l ∷ [];
    lines = j.lines ∙ (ap (λ (ps : List Physical). j.front ++ physical_of l ∷ ps) n.counted ∙ sym (append_assoc j.front (physical_of l ∷ []) (physical_of next ∷ counted_of behind)));
    goes_on = all_push j.front (physical_of l) j.goes_on e;
    summed = summed;
    number_is = j.number_is ∙ sym (number_push j.front (physical_of l) (physical_of next));
    to = here.at;
    chain = chain_all;
    chained = n.between.from;
    bytes = n.between.bytes;
    next = n.between.to;
    size = omega (arith, m.size, j.size, j.bytes, j.next, n.between.from);
    all = omega (arith, j.all, n.between.all);
    shorter = omega (arith, j.shorter, n.between.shorter);
    numbers = n.between.numbers;
  }

  -- the logical line that ends here
  joined : (line : LogicalLine) → groups (counted_of place) ≡ whole ∷ groups (counted_of here) → line.number ≡ number → line.end ≡ l.start + length l.bytes.now → line.next ≡ l.next → line.cause ≡ cause_of g → IsLogical place old new line here
  unfolding whole
  joined line e n h x c = record {
    line = j.front ++ physical_of l ∷ [];
    is = e;
    number_is = n ∙ j.number_is;
    end_is = h ∙ sym (end_push j.front (physical_of l));
    next_is = x ∙ sym (next_push j.front (physical_of l));
    cause = rw c (cause_tells number (j.front ++ physical_of l ∷ []) old new g.bad_byte g.size g.taken j.number_is summed);
    chain = chain_all;
    ends = (omega (arith, h, j.chained, chain_le place.at j.front j.to j.chain), omega (arith, h, x, j.bytes), omega (arith, x, j.next));
    all = j.all;
    shorter = j.shorter;
    numbers = j.numbers;
  }
    where
      chain_le : (from : ℕ) (ps : List Physical) (to : ℕ) → IsChain from ps to → from ≤ to
      chain_le from [] to c = c
      chain_le from (p ∷ ps) to c = omega (arith, c.0, c.1, chain_le p.next ps to c.2)

  pub joined_last : (line : LogicalLine) → continued l.bytes.now ≡ false → line.number ≡ number → line.end ≡ l.start + length l.bytes.now → line.next ≡ l.next → line.cause ≡ cause_of g → IsLogical place old new line here
  unfolding whole
  joined_last line e n h x c = joined line (ap groups j.lines ∙ groups_close j.front (physical_of l) (counted_of here) j.goes_on e) n h x c

  pub joined_end : (line : LogicalLine) → continued l.bytes.now ≡ true → counted_of here ≡ [] → line.number ≡ number → line.end ≡ l.start + length l.bytes.now → line.next ≡ l.next → line.cause ≡ cause_of g → IsLogical place old new line here
  unfolding whole
  joined_end line e z n h x c =
      let k : groups (counted_of place) ≡ (j.front ++ physical_of l ∷ []) ∷ [] = ap groups (j.lines ∙ ap (λ (ps : List Physical). j.front ++ physical_of l ∷ ps) z) ∙ groups_end j.front (physical_of l) j.goes_on e in
      let r : (j.front ++ physical_of l ∷ []) ∷ [] ≡ (j.front ++ physical_of l ∷ []) ∷ groups (counted_of here) = ap (λ (ps : List Physical). (j.front ++ physical_of l ∷ []) ∷ groups ps) (sym z) in
      joined line (k ∙ r) n h x c
