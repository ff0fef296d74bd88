use Rattle.std.proofs.Common.{◌≡◌, ℕ, ◌≤◌, ◌-◌, [], length, map, get_or}
use Rattle.sg_patterns.proofs.lexemes.empty_rows.Given as goal

abbrev pub invariant-rows : goal.invariant-rows
invariant-rows l = (length l.rows.items ≤ 256) × ((b : ℕ) → get_or (map (λ v. v.items) l.rows.items) b [] ≡ [])

abbrev pub decreases-rows : goal.decreases-rows
decreases-rows l = 256 - length l.rows.items
