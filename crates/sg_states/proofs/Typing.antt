-- What is typed at a selection moves no first line.
use Rattle.std.specs.Prelude.{◌≡◌, refl, ℕ, Bool, true, false, bytes_eq, if◌then◌else◌, [], Some, None}
use Rattle.std.specs.Option.{option_map_or}
use Rattle.std.proofs.Common.{sym, ap, ◌∙◌, subst}
use Rattle.sg_kinds.specs.Values.{Bytes}
use Rattle.sg_kinds.specs.Terms.{Term}
use Rattle.sg_kinds.specs.Places.{Place}
use Rattle.sg_kinds.specs.FromScratch.{value_in}
use Rattle.sg_kinds.specs.InView.{in_view}
use Rattle.sg_kinds.specs.declared.spec.Spec.{Spec}
use Rattle.sg_kinds.proofs.Elementary.{bytes_is}
use Rattle.sg_groves.specs.Evaluated.{IsAtOrBelow}
use Rattle.sg_groves.proofs.Below.{below_itself}
use Rattle.sg_unparse.specs.Owned.{AreTypedAlike}
use Rattle.sg_unparse.specs.Page.{Region, region_of}
use Rattle.sg_unparse.proofs.Begins.{region_begins_alike}
use Rattle.sg_states.specs.Seen.{first_line, marks_seen, nothing_typed, typed_at}

alike : (u : Place) (text : Bytes) → AreTypedAlike u nothing_typed (typed_at u text)
alike u text v out = by (bytes_eq v u) refl
  where
    by : (b : Bool) → bytes_eq v u ≡ b → None ≡ (if b then Some text else None)
    by true e = absurd (out (subst (λ z. IsAtOrBelow z u) (sym (bytes_is v u e)) (below_itself u)))
    by false e = refl

-- where both pages show the node, it begins in one line
pub line_stays : (spec : Spec) (v : ℕ) (t : Term) (u : Place) (text : Bytes) (r s : Region) → region_of (marks_seen spec v t nothing_typed) u ≡ Some r → region_of (marks_seen spec v t (typed_at u text)) u ≡ Some s
    → s.first.line ≡ first_line spec v t u
unfolding first_line
line_stays spec v t u text r s one two =
    sym (ap (λ p. p.line) (region_begins_alike (in_view spec v) (value_in spec t) nothing_typed (typed_at u text) u (alike u text) [] t 0 r s one two))
    ∙ sym (ap (λ o. option_map_or (λ r. r.first.line) o 1) one)
