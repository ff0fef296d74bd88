-- One more of numbers below a bound, each with its text.
use Rattle.std.proofs.Common.{◌≡◌, ℕ, ◌+◌, List, ◌++◌, ap, sym, ◌∙◌, append_assoc}
use Rattle.std.specs.Prelude.{flat_map}
use Rattle.sg_kinds.specs.Instances.{below}
use Rattle.sg_useless.proofs.Numbers.{flat_more}

pub flat_step : {X : Type 0} (f : ℕ → List X) (i : ℕ) (start old new : List X) → old ≡ start ++ flat_map f (below i) → new ≡ old ++ f i
    → new ≡ start ++ flat_map f (below (i + 1))
flat_step f i start old new so_far put =
    put ∙ ap (λ l. l ++ f i) so_far ∙ append_assoc start (flat_map f (below i)) (f i) ∙ ap (λ l. start ++ l) (sym (flat_more f i))
