use Rattle.sg_patterns.proofs.ScanLaws.{tokens-unique, scanned-never-stops, one-stop, same-scan, same-stop}
use Rattle.sg_patterns.proofs.laws.scans_are_unique.Goals as goal

pub returns-clause-tokens : goal.returns-clause-tokens
returns-clause-tokens c = λ l text. tokens-unique l text

pub returns-clause-either : goal.returns-clause-either
returns-clause-either c = λ l text. scanned-never-stops l text

pub returns-clause-place : goal.returns-clause-place
returns-clause-place c = λ l text. one-stop l text

pub returns-clause-same : goal.returns-clause-same
returns-clause-same c = λ spec l m a b text. same-scan spec l m a b text

pub returns-clause-same_stop : goal.returns-clause-same_stop
returns-clause-same_stop c = λ spec l m a b text. same-stop spec l m a b text
