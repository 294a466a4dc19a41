-- A text, logical line by logical line.
use Rattle.std.proofs.Common.{◌≡◌, ℕ, ◌+◌, ◌-◌, ◌^◌, ◌<◌, ◌≤◌, Bool, true, false, List, [], ◌∷◌, ◌++◌, length, take, drop, refl, sym, ap, subst, ◌∙◌, append_assoc, arith, Option, Some, None, count_by}
use Rattle.std.specs.List.{AllByRecursion}
use Rattle.std.proofs.lemmas.List.{append-nil, take_at, drop_at}
use Rattle.fd_base.specs.declared.numbering.Line.{Line}
use Rattle.fd_lexer.specs.declared.token.Token.{Token}
use Rattle.fd_lexer.specs.declared.token.TokenKind.TheVariants as kinds
use Rattle.fd_lexer.specs.declared.token.Lexed.{Lexed}
use Rattle.fd_lexer.specs.declared.cause.Cause.{Cause}
use Rattle.fd_lexer.specs.declared.cause.Cause.TheVariants.{NumberTooLarge}
use Rattle.fd_lexer.specs.declared.faults.LogicalLine.{LogicalLine}
use Rattle.fd_lexer.specs.declared.place.Place.{Place}
use Rattle.fd_lexer.specs.View.{AreClosed, IsWellFormed}
use Rattle.fd_lexer.specs.Cause.{number}
use Rattle.fd_lexer.specs.Physical.{Physical, is_feed}
use Rattle.fd_lexer.specs.Logical.{groups, logical_lines, number_of, end_of, HasTokens, IsFine}
use Rattle.fd_lexer.specs.Text.{LiesIn, IsEnd, IsPlainLine, line_end, LinesHave, IsEnded, IsOpen, IsReading, IsFirstRefusal}
use Rattle.fd_lexer.specs.Place.{counted_of}
use Rattle.fd_lexer.specs.Faults.{IsLogical, IsLogicalOrNone}
use Rattle.fd_lexer.specs.Tokens.{HasLarge}
use Rattle.fd_lexer.proofs.Joined.{one_list, TellsCause}
use Rattle.fd_lexer.proofs.Spans.{AreSpans, spans_append, line_spans, are_of, closed_line, closed_append, are_tokens, spans_lie, spans_order}

lines_push : (ls : List (List Physical)) (l : List Physical) (ts us : List Token) → LinesHave ls ts → HasTokens l us → LinesHave (ls ++ l ∷ []) (ts ++ (us ++ line_end l ∷ []))
lines_push [] l ts us e d = (us, [], rw e refl, d, refl)
lines_push (k ∷ ls) l ts us t d = (t.0, t.1 ++ (us ++ line_end l ∷ []), rw t.2 (append_assoc t.0 (line_end k ∷ t.1) (us ++ line_end l ∷ [])), t.3, lines_push ls l t.1 us t.4 d)

all_push : (P : List Physical → Type 0) (ls : List (List Physical)) (l : List Physical) → AllByRecursion P ls → P l → AllByRecursion P (ls ++ l ∷ [])
all_push P [] l h p = (p, tt)
all_push P (k ∷ ls) l h p = (h.0, all_push P ls l h.1 p)

-- the lines so far are plain, and their tokens were taken
pub record IsRead (text : List ℕ) (place : Place) (items : List Token) : Type 0 where
  pub done : List (List Physical)
  pub lines : logical_lines text ≡ done ++ groups (counted_of place)
  pub plain : AllByRecursion (IsPlainLine text) done
  pub tokens : LinesHave done items
  pub all : place.at + length place.rest.now ≡ length text
  pub numbers : place.number ≤ place.at + 1
  pub spans : AreSpans 0 items place.at
  pub closed : AreClosed items

-- the tokens of the next line, where nothing is wrong with it
pub record IsTakenLine (text : List ℕ) (items new : List Token) (l : List Physical) : Type 0 where
  pub fine : IsFine l
  pub tokens : List Token
  pub are : HasTokens l tokens
  pub new_is : new ≡ items ++ tokens

taken_line : (text : List ℕ) (items new : List Token) (l : List Physical) (o : Option Cause) → TellsCause l items new o → o ≡ None → IsTakenLine text items new l
taken_line text items new l o t e = let u : TellsCause l items new None = subst (TellsCause l items new) e t in record { fine = u.0; tokens = u.1.0; are = u.1.1; new_is = u.1.2 }

module _ (text : List ℕ) (place : Place) (items : List Token) (r : IsRead text place items) where
  -- no line is left
  pub read_open : counted_of place ≡ [] → IsOpen text items (record { 0 = count_by is_feed text + 1 }) (length text)
  read_open e =
      let d : logical_lines text ≡ r.done = r.lines ∙ (ap (λ (ps : List Physical). r.done ++ groups ps) e ∙ append-nil r.done) in
      record { plain = rw d r.plain; tokens = rw d r.tokens; line_is = refl; rest_is = refl }

  module _ (new : List Token) (l : LogicalLine) (behind : Place) (h : IsLogical place items new l behind) where
    lines_here : logical_lines text ≡ r.done ++ h.line ∷ groups (counted_of behind)
    lines_here = r.lines ∙ ap (λ (ls : List (List Physical)). r.done ++ ls) h.is

    pub read_refused : (c : Cause) → l.cause ≡ Some c → IsFirstRefusal text l.number (number c)
    read_refused c e = record {
      before = r.done;
      refused = h.line;
      behind = groups (counted_of behind);
      lines = lines_here;
      plain = r.plain;
      cause = c;
      least = subst (TellsCause h.line items new) e h.cause;
      line_is = h.number_is;
      number_is = refl;
    }

    module _ (e : l.cause ≡ None) where
      pub taken : IsTakenLine text items new h.line
      taken = taken_line text items new h.line l.cause h.cause e

      small : HasLarge taken.tokens → ⊥
      small g = taken.fine NumberTooLarge (taken.tokens, taken.are, g)

      spans_here : AreSpans place.at taken.tokens (end_of h.line)
      spans_here = line_spans (number_of h.line) h.line place.at behind.at taken.tokens taken.are h.chain (omega (arith, h.ends.0, h.end_is)) small

      end_within : end_of h.line ≤ length text
      end_within = omega (arith, h.ends.1, h.ends.2, h.end_is, h.all, r.all)

      module _ (found : List Token) (f : found ≡ drop (length items) new) where
        found_is : found ≡ taken.tokens
        found_is = f ∙ (ap (drop (length items)) taken.new_is ∙ drop_at items taken.tokens (length items) refl)

        pub found_lie : AllByRecursion (LiesIn text) found
        found_lie = rw found_is (spans_lie text place.at taken.tokens (end_of h.line) end_within spans_here)

        pub read_ended : IsEnd text found → IsEnded text items l.number l.next
        read_ended g = record {
          before = r.done;
          last = h.line;
          behind = groups (counted_of behind);
          lines = lines_here;
          plain = r.plain;
          ends = (taken.tokens, taken.are, subst (IsEnd text) found_is g);
          fine = taken.fine;
          tokens = r.tokens;
          line_is = h.number_is;
          rest_is = h.next_is;
        }

        pub kept_is : (kept : List Token) (n : ℕ) → n ≡ length items → kept ≡ take n new → kept ≡ items
        kept_is kept n m g = g ∙ (rw m (ap (take (length items)) taken.new_is ∙ take_at items taken.tokens (length items) refl))

        pub read_more : (IsEnd text found → ⊥) → (t : Token) → t ≡ record { line = l.number; start = l.end; end = l.end; kind = kinds.LineEnd } → IsRead text behind (new ++ t ∷ [])
        read_more n t g =
            let k : t ≡ line_end h.line = g ∙ rw (h.number_is, h.end_is) refl in
            let m : new ++ t ∷ [] ≡ items ++ (taken.tokens ++ line_end h.line ∷ []) = ap (λ (u : Token). new ++ u ∷ []) k ∙ (ap (λ (us : List Token). us ++ line_end h.line ∷ []) taken.new_is ∙ append_assoc items taken.tokens (line_end h.line ∷ [])) in
            rw m (record {
              done = r.done ++ h.line ∷ [];
              lines = lines_here ∙ sym (append_assoc r.done (h.line ∷ []) (groups (counted_of behind)));
              plain = all_push (IsPlainLine text) r.done h.line r.plain (record {
                fine = taken.fine;
                goes_on = λ q. n (subst (IsEnd text) (one_list (number_of h.line) h.line q.0 taken.tokens q.1 taken.are ∙ sym found_is) q.2);
              });
              tokens = lines_push r.done h.line items taken.tokens r.tokens taken.are;
              all = omega (arith, h.all, r.all);
              numbers = h.numbers;
              spans = spans_append 0 place.at behind.at items (taken.tokens ++ line_end h.line ∷ []) r.spans
                  (spans_append place.at (end_of h.line) behind.at taken.tokens (line_end h.line ∷ []) spans_here
                  (omega arith, omega arith, omega arith, omega (arith, h.end_is, h.ends.1, h.ends.2)));
              closed = closed_append items (taken.tokens ++ line_end h.line ∷ []) r.closed (closed_line (number_of h.line) taken.tokens (line_end h.line) (are_of (number_of h.line) h.line taken.tokens taken.are) refl refl);
            })

-- ---- what is made of it

formed : (text : List ℕ) (place : Place) (ts : List Token) (ended : Bool) (line : Line) (rest : ℕ) → IsRead text place ts → length text < 2 ^ 32 - 1 → IsWellFormed (record { text = text; tokens = ts; ended = ended; end_line = line; rest = rest })
formed text place ts ended line rest r lt = record {
  room = lt;
  tokens = are_tokens text 0 ts place.at (omega (arith, r.all)) r.spans;
  in_order = spans_order 0 ts place.at r.spans;
  closed = r.closed;
}

pub formed_of : (text : List ℕ) (place : Place) (items kept : List Token) (ended : Bool) (line : Line) (rest : ℕ) (x : Lexed) → IsRead text place items → length text < 2 ^ 32 - 1 → kept ≡ items → x ≡ record { text = text; tokens = kept; ended = ended; end_line = line; rest = rest } → IsWellFormed x
formed_of text place items kept ended line rest x r lt k e = rw (e, k) (formed text place items ended line rest r lt)

-- what the loop's call gives
pub none_left : (p : Place) (old new : List Token) (r : Option (LogicalLine × Place)) → IsLogicalOrNone p old new r → r ≡ None → (counted_of p ≡ []) × (new ≡ old)
none_left p old new r t e = subst (λ (x : Option (LogicalLine × Place)). IsLogicalOrNone p old new x) e t

pub line_found : (p : Place) (old new : List Token) (r : Option (LogicalLine × Place)) (l : LogicalLine) (q : Place) → IsLogicalOrNone p old new r → r ≡ Some (l, q) → IsLogical p old new l q
line_found p old new r l q t e = subst (λ (x : Option (LogicalLine × Place)). IsLogicalOrNone p old new x) e t

pub found_at : (found items new a b : List Token) → found ≡ drop (length a) b → a ≡ items → b ≡ new → found ≡ drop (length items) new
found_at found items new a b e f g = e ∙ rw (f, g) refl

pub open_reading : (text : List ℕ) (place : Place) (items new : List Token) (feeds : ℕ) (x : Lexed) → IsRead text place items → (counted_of place ≡ []) × (new ≡ items) → feeds ≡ count_by is_feed text → x ≡ record { text = text; tokens = new; ended = false; end_line = record { 0 = feeds + 1 }; rest = length text } → IsReading text x
open_reading text place items new feeds x r e f g = rw g (record { text_is = refl; reading = rw (e.1, f) (read_open text place items r e.0) })

pub ended_reading : (text : List ℕ) (items kept : List Token) (line : Line) (rest : ℕ) (x : Lexed) → IsEnded text items line rest → kept ≡ items → x ≡ record { text = text; tokens = kept; ended = true; end_line = line; rest = rest } → IsReading text x
ended_reading text items kept line rest x r e g = rw g (record { text_is = refl; reading = rw e r })

pub read_none : (text : List ℕ) (place : Place) → place.rest.now ≡ text → place.at ≡ 0 → place.number ≡ 1 → IsRead text place []
read_none text place e a n = record {
  done = [];
  lines = rw (e, a, n) refl;
  plain = tt;
  tokens = refl;
  all = omega (arith, ap length e, a);
  numbers = omega (arith, a, n);
  spans = omega (arith, a);
  closed = tt;
}
