use Rattle.sg_patterns.proofs.ScanLaws.{text-scanned}
use Rattle.sg_patterns.proofs.laws.each_text_is_scanned.Goals as goal

pub returns : goal.returns
returns c = λ l text. text-scanned l text
