-- The names of levels, by what is told.
use Rattle.std.specs.Prelude.{◌≡◌, ℕ, ◌+◌, ◌<◌, ◌≤◌, Bool, true, false, cond, ◌&&◌, nat_lt, ◌∷◌, ◌++◌}
use Rattle.std.specs.Fmt.{decimal}
use Rattle.std.proofs.Common.{refl, ap, arith}
use Rattle.std.proofs.lemmas.Bool.{lt-ltb}
use Rattle.sg_kinds.specs.Values.{Bytes}
use Rattle.sg_reports.specs.Symbols.{level_name}

pub level_told : (told : Bool) (name : Bytes) (last i : ℕ) → told ≡ true → 0 < last → level_name told name last i ≡ name ++ 47 ∷ decimal (i + 1)
unfolding level_name
level_told told name last i is some = (λ t. cond (is t && lt-ltb 0 last some t) (name ++ 47 ∷ decimal (i + 1)) name)

pub level_untold : (told : Bool) (name : Bytes) (last i : ℕ) → told ≡ false → level_name told name last i ≡ name
unfolding level_name
level_untold told name last i is = ap (λ b. cond (b && nat_lt 0 last) (name ++ 47 ∷ decimal (i + 1)) name) is

pub level_alone : (told : Bool) (name : Bytes) (last i : ℕ) → last ≤ 0 → level_name told name last i ≡ name
unfolding level_name
level_alone true name last i none = ap (λ b. cond b (name ++ 47 ∷ decimal (i + 1)) name) (none_more last none)
  where
    none_more : (n : ℕ) → n ≤ 0 → nat_lt 0 n ≡ false
    none_more n low = grind arith
level_alone false name last i none = refl
