-- What a step over a byte makes of the flags.
use Rattle.std.proofs.Common.{◌≡◌, ◌≢◌, ℕ, suc, ◌+◌, ◌<◌, ◌≤◌, inl, inr, Bool, true, false, ◌&&◌, ◌||◌, List, length, get_or, refl, sym, ap, ◌∙◌, subst, arith, Option, Some, None}
use Rattle.std.specs.Prelude.{slice_get}
use Rattle.std.proofs.Math.ListN.{set}
use Rattle.std.proofs.Math.Nat.{eq-or-lt_of_le}
use Rattle.std.proofs.lemmas.List.{get_or-set_other, get_or-set_same}
use Rattle.std.proofs.lemmas.Option.{slice_get-get_or}
use Rattle.sg_patterns.specs.declared.program.Node.{Node}
use Rattle.sg_patterns.specs.declared.program.Node.TheVariants as node
use Rattle.sg_patterns.specs.declared.program.Above.{Above}
use Rattle.sg_patterns.specs.declared.program.Above.TheVariants.{Top, Same, After, Again}
use Rattle.sg_patterns.specs.declared.program.Program.{Program}
use Rattle.sg_patterns.specs.Flags.{flag_at}
use Rattle.sg_patterns.specs.Programs.{IsOrdered, NodeAfter, PartsBefore}
use Rattle.std.specs.Bool.{OnFalse}
use Rattle.sg_patterns.specs.Marks.{begin_in, begin_value, final_in, final_value, is_leaf, HasFinalsTo, IsDead}

flag-other : (g : List Bool) (k j : ℕ) (v : Bool) → j ≢ k → flag_at (set g k v) j ≡ flag_at g j
flag-other g k j v ne = get_or-set_other g k j v false ne

flag-same : (g : List Bool) (k : ℕ) (v : Bool) → k < length g → flag_at (set g k v) k ≡ v
flag-same g k v within = get_or-set_same g k v false within

-- whether a node begins does not hang on the flags of nodes before it
begin-same : (em f g : List Bool) (starts v : Bool) (k j : ℕ) (o : Option Above) → k ≤ j → ((a : Above) → o ≡ Some a → NodeAfter j a) → begin_in em f (set g k v) starts j o ≡ begin_in em f g starts j o
begin-same em f g starts v k j None le after = refl
begin-same em f g starts v k j (Some Top) le after = refl
begin-same em f g starts v k j (Some (Same p)) le after = let ne : p ≢ k = omega (arith, after (Same p) refl) in flag-other g k p v ne
begin-same em f g starts v k j (Some (After p a)) le after = let ne : p ≢ k = omega (arith, after (After p a) refl) in ap (λ b. (b && flag_at em a) || flag_at f a) (flag-other g k p v ne)
begin-same em f g starts v k j (Some (Again p)) le after = let ne : p ≢ k = omega (arith, after (Again p) refl) in ap (λ b. b || flag_at f j) (flag-other g k p v ne)

-- one more node from behind
pub begins-more : (p : Program) (starts : Bool) (f g : List Bool) (k n : ℕ) (v : Bool) → IsOrdered p → n ≡ suc k → k < length g → v ≡ begin_value p starts f g k
    → ((j : ℕ) → n ≤ j → j < length p.above.items → flag_at g j ≡ begin_value p starts f g j)
    → (j : ℕ) → k ≤ j → j < length p.above.items → flag_at (set g k v) j ≡ begin_value p starts f (set g k v) j
begins-more p starts f g k n v ordered next within is behind j le less =
    let same = begin-same p.empties.items f g starts v k j (slice_get p.above.items j) le (ordered.order j) in
    elim (eq-or-lt_of_le le) [
      | inl e ↦ subst (λ i. flag_at (set g k v) i ≡ begin_value p starts f (set g k v) i) e (flag-same g k v within ∙ is ∙ sym (begin-same p.empties.items f g starts v k k (slice_get p.above.items k) (omega arith) (ordered.order k)))
      | inr later ↦ let ne : j ≢ k = omega arith in flag-other g k j v ne ∙ behind j (omega arith) less ∙ sym same
    ]

-- whether a node is final does not hang on the flags of nodes behind its parts
final-same : (em g f : List Bool) (b k j : ℕ) (v : Bool) (o : Option Node) → j ≤ k → ((x : Node) → o ≡ Some x → PartsBefore j x) → final_in em g (set f k v) b j o ≡ final_in em g f b j o
final-same em g f b k j v None le before = refl
final-same em g f b k j v (Some node.Nothing) le before = refl
final-same em g f b k j v (Some (node.Leaf l)) le before = refl
final-same em g f b k j v (Some (node.Then x y)) le before =
    let h = before (node.Then x y) refl in
    let ne : x ≢ k = omega (arith, h.0) in
    let ne' : y ≢ k = omega (arith, h.1) in
    λ i. (flag-other f k x v ne i && flag_at em y) || flag-other f k y v ne' i
final-same em g f b k j v (Some (node.Either x y)) le before =
    let h = before (node.Either x y) refl in
    let ne : x ≢ k = omega (arith, h.0) in
    let ne' : y ≢ k = omega (arith, h.1) in
    λ i. flag-other f k x v ne i || flag-other f k y v ne' i
final-same em g f b k j v (Some (node.Over x)) le before = let ne : x ≢ k = omega (arith, before (node.Over x) refl) in flag-other f k x v ne

-- one more node from the front
pub finals-more : (p : Program) (g f : List Bool) (b k : ℕ) (v : Bool) → IsOrdered p → k < length f → v ≡ final_value p b g f k → HasFinalsTo p k b g f → HasFinalsTo p (k + 1) b g (set f k v)
finals-more p g f b k v ordered within is before j less =
    let le : j ≤ k = omega arith in
    let same = final-same p.empties.items g f b k j v (slice_get p.nodes.items j) le (ordered.parts j) in
    elim (eq-or-lt_of_le le) [
      | inl e ↦ subst (λ i. flag_at (set f k v) i ≡ final_value p b g (set f k v) i) (sym e) (flag-same f k v within ∙ is ∙ sym (final-same p.empties.items g f b k k v (slice_get p.nodes.items k) (omega arith) (ordered.parts k)))
      | inr earlier ↦ let ne : j ≢ k = omega arith in flag-other f k j v ne ∙ before j earlier ∙ sym same
    ]

pub dead-more : (p : Program) (f : List Bool) (k : ℕ) (alive v : Bool) (x : Node) → k < length f → k < length p.nodes.items → x ≡ get_or p.nodes.items k x → OnFalse alive (IsDead p k f) → OnFalse (alive || (v && is_leaf x)) (IsDead p (k + 1) (set f k v))
dead-more p f k true v x within there at dead = tt
dead-more p f k false v x within there at dead = last v (is_leaf x) refl refl
  where
    last : (w leaf : Bool) → v ≡ w → is_leaf x ≡ leaf → OnFalse (w && leaf) (IsDead p (k + 1) (set f k v))
    last true true e l = tt
    last true false e l = λ j y less is leaf. at_one j y less is leaf (λ same. absurd (let x_is : Some x ≡ Some y = sym (slice_get-get_or p.nodes.items k x there ∙ ap Some (sym at)) ∙ ap (slice_get p.nodes.items) (sym same) ∙ is in let one : x ≡ y = cc in let not : false ≡ true = sym l ∙ ap is_leaf one ∙ leaf in cc))
      where
        at_one : (j : ℕ) (y : Node) → j < k + 1 → slice_get p.nodes.items j ≡ Some y → is_leaf y ≡ true → (j ≡ k → flag_at (set f k v) j ≡ false) → flag_at (set f k v) j ≡ false
        at_one j y less is leaf here = elim (eq-or-lt_of_le {n = j} {m = k} (omega arith)) [ inl same ↦ here same | inr earlier ↦ let ne : j ≢ k = omega arith in flag-other f k j v ne ∙ dead j y earlier is leaf ]
    last false leaf e l = λ j y less is leaf. elim (eq-or-lt_of_le {n = j} {m = k} (omega arith)) [ inl same ↦ ap (flag_at (set f k v)) same ∙ flag-same f k v within ∙ e | inr earlier ↦ let ne : j ≢ k = omega arith in flag-other f k j v ne ∙ dead j y earlier is leaf ]
