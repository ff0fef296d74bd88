use Rattle.std.proofs.Common.{refl}
use Rattle.sg_saved_form.specs.Files.{Quote}
use Rattle.sg_saved_form.specs.declared.reader.Mode.TheVariants as mode
use Rattle.sg_saved_form.proofs.Noting.{text-note}
use Rattle.sg_saved_form.proofs.reader.Reader.feed_text.Goals as goal

pub returns-in-DoubleQuote : goal.returns-in-DoubleQuote
returns-in-DoubleQuote c os s byte is at = rw c.in-DoubleQuote.is (c.take_leaf.ensures mode.Text os (Quote s) is (text-note os s c.args.self.now.from c.args.at is.from at) refl)
