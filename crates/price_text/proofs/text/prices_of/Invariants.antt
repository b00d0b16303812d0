use Rattle.std.proofs.Common.{◌≡◌, ◌+◌, length, vec_items}
use Rattle.std.specs.Iterator.Adapters.{enumerate_source, enumerate_count}
use Rattle.price_text.specs.Lines.{lines_read}
use Rattle.price_text.specs.Texts.{prices_of}
use Rattle.price_text.proofs.Reading.{before}
use Rattle.price_text.proofs.text.prices_of.Given as goal

abbrev pub invariant-loop-index : goal.invariant-loop-index
invariant-loop-index l = record {
  counted : enumerate_count l.index-iterator + length (lines_read (enumerate_source l.index-iterator).rest.now) ≡ length (lines_read l.lines.rest.now);
  read : before (vec_items l.prices) (prices_of (enumerate_count l.index-iterator + 2) (lines_read (enumerate_source l.index-iterator).rest.now)) ≡ prices_of 2 (lines_read l.lines.rest.now);
}
