use Rattle.std.proofs.Common.{◌≡◌, ℕ, ◌<◌, length}
use Rattle.std.specs.Prelude.{◌↔◌}
use Rattle.sg_sets.specs.Members.{Has}
use Rattle.sg_sets.specs.Rows.{Holds}
use Rattle.sg_sets.proofs.relation.Relation.before.Given as goal

abbrev pub invariant-loop-v : goal.invariant-loop-v
invariant-loop-v l = record {
  width : length l.found ≡ length l.self;
  before : (v : ℕ) → Has l.found v ↔ ((v < l.v) × ((b : ℕ) × Holds l.self v b × Has l.set b));
}
