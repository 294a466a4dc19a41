use Rattle.place_text.specs.Readings.{size_in}
use Rattle.place_text.proofs.reading.mark.Goals as goal

pub returns-in-SendIn-clause-tables : goal.returns-in-SendIn-clause-tables
returns-in-SendIn-clause-tables c = record {
  send_in = c.add.ensures.table (size_in c.args.known.now) c.requires.tables.send_in;
  send_out = c.requires.tables.send_out;
  recv_in = c.requires.tables.recv_in;
  recv_out = c.requires.tables.recv_out;
  hoists = c.requires.tables.hoists;
}

pub returns-in-RecvIn-clause-tables : goal.returns-in-RecvIn-clause-tables
returns-in-RecvIn-clause-tables c = record {
  send_in = c.requires.tables.send_in;
  send_out = c.requires.tables.send_out;
  recv_in = c.add-in-RecvIn.ensures.table (size_in c.args.known.now) c.requires.tables.recv_in;
  recv_out = c.requires.tables.recv_out;
  hoists = c.requires.tables.hoists;
}

pub returns-in-SendOut-clause-tables : goal.returns-in-SendOut-clause-tables
returns-in-SendOut-clause-tables c = record {
  send_in = c.requires.tables.send_in;
  send_out = c.add-in-SendOut.ensures.table (size_in c.args.known.now) c.requires.tables.send_out;
  recv_in = c.requires.tables.recv_in;
  recv_out = c.requires.tables.recv_out;
  hoists = c.requires.tables.hoists;
}

pub returns-in-RecvOut-clause-tables : goal.returns-in-RecvOut-clause-tables
returns-in-RecvOut-clause-tables c = record {
  send_in = c.requires.tables.send_in;
  send_out = c.requires.tables.send_out;
  recv_in = c.requires.tables.recv_in;
  recv_out = c.add-in-RecvOut.ensures.table (size_in c.args.known.now) c.requires.tables.recv_out;
  hoists = c.requires.tables.hoists;
}

pub returns-in-Hoist-clause-tables : goal.returns-in-Hoist-clause-tables
returns-in-Hoist-clause-tables c = record {
  send_in = c.requires.tables.send_in;
  send_out = c.requires.tables.send_out;
  recv_in = c.requires.tables.recv_in;
  recv_out = c.requires.tables.recv_out;
  hoists = c.add-in-Hoist.ensures.table (size_in c.args.known.now) c.requires.tables.hoists;
}
