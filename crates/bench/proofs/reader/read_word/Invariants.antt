-- `bench::reader::read_word`: the letters that are left lead the reader from its state to where the whole word leads it from 0.
use mathlib.Core.Path.{◌≡◌}
use lib.ListN.{drop}
use Rattle.paper.specs.Words.{after}
use Rattle.paper.specs.Tables.{reader_takes, reader_state}
use Rattle.bench.proofs.reader.read_word.Given as goal

abbrev pub invariant-loop-letter : goal.invariant-loop-letter
invariant-loop-letter l =
    record {
      leads : after (reader_takes l.rows l.count l.m) l.reader.state (drop l.letter-index l.word) ≡ reader_state l.rows l.count l.m l.word;
      rows : l.reader.rows.now ≡ l.rows;
      count : l.reader.count ≡ l.count;
      m : l.reader.m ≡ l.m;
    }
