-- Lemmas on a number that takes over all that it leads to.
use Rattle.std.proofs.Common.{◌≡◌, ℕ, ◌+◌, ◌<◌, ◌≤◌, ◌⊎◌, inl, inr, List, [], ◌∷◌, Bool, true, false, not, cond, length, set, replicate, refl, sym, ap, ◌∙◌, subst, arith, length-set}
use Rattle.std.specs.Prelude.{◌↔◌}
use Rattle.std.specs.Bool.{OnTrue, OnFalse}
use Rattle.std.proofs.lemmas.Bool.{cases_eq, false≢true}
use Rattle.std.proofs.lemmas.List.{get_or-set_other, get_or-replicate, length-replicate}
use Rattle.sg_sets.specs.Members.{Has, Outside, missing_of}
use Rattle.sg_sets.specs.Paths.{Leads, Path}
use Rattle.sg_sets.specs.Relations.{HasPassedOn, AreClosed}
use Rattle.sg_sets.specs.Rows.{Holds, row_of}
use Rattle.sg_sets.proofs.BeforeLemmas.{Holds-below}
use Rattle.sg_sets.proofs.LengthenLemmas.{paths-of}
use Rattle.sg_sets.proofs.MembersLemmas.{not-has, has-below, has-cases}
use Rattle.sg_sets.proofs.RowsLemmas.{missing_of-set}

-- what stays while pairs are added that paths of the old relation lead to
pub record Extends (old new : List (List Bool)) : Type 0 where
  pub size : length new ≡ length old
  pub contains : (x y : ℕ) → Holds old x y → Holds new x y
  pub least : (x y : ℕ) → Holds new x y → Path (Holds old) x y

pub extends-none : (rows : List (List Bool)) → Extends rows rows
extends-none rows = record { size = refl; contains = λ x y h. h; least = λ x y h. ([], h) }

pub extends-then : (old now next : List (List Bool)) → Extends old now → Extends now next → Extends old next
extends-then old now next e f = record {
  size = f.size ∙ e.size;
  contains = λ x y h. f.contains x y (e.contains x y h);
  least = paths-of old now next e.least f.least;
}

-- what has passed on is related to all that it leads to
goes-on : (rows : List (List Bool)) (a : ℕ) → HasPassedOn rows a → (v b : ℕ) (via : List ℕ) → Holds rows a v → Leads (Holds rows) v via b → Holds rows a b
goes-on rows a passed v b [] h step = passed v b h step
goes-on rows a passed v b (w ∷ via) h way = goes-on rows a passed w b via (passed v w h way.0) way.1

leads-on : (rows : List (List Bool)) (a b : ℕ) → HasPassedOn rows a → Path (Holds rows) a b → Holds rows a b
leads-on rows a b passed ([], step) = step
leads-on rows a b passed (v ∷ via, way) = goes-on rows a passed v b via way.0 way.1

-- and stays so
pub passed-stays : (old now : List (List Bool)) (a : ℕ) → Extends old now → HasPassedOn old a → HasPassedOn now a
passed-stays old now a e passed k b p q =
    let first = leads-on old a k passed (e.least a k p) in
    let way = e.least k b q in
    e.contains a b (goes-on old a passed k b way.0 first way.1)

pub closed-stays : (done : List Bool) (old now : List (List Bool)) → Extends old now → AreClosed done old → AreClosed done now
closed-stays done old now e closed a h = passed-stays old now a e (closed a h)

-- one number more is done
pub closed-more : (done next : List Bool) (rows : List (List Bool)) (a : ℕ) → AreClosed done rows → HasPassedOn rows a → next ≡ set done a true → AreClosed next rows
closed-more done next rows a closed passed is x h = elim (cases_eq x a) [
  | inl same ↦ subst (HasPassedOn rows) (sym same) passed
  | inr other ↦ closed x (sym (get_or-set_other done a x true false other) ∙ subst (λ s. Has s x) is h)
]

pub has-none : (n a : ℕ) → ¬ (Has (replicate n false) a)
has-none n a h =
    let low = has-below (replicate n false) a h in
    let inside : a < n = omega (arith, low, length-replicate n false) in
    false≢true (sym (get_or-replicate n a false false inside) ∙ h)

-- a has taken over what the numbers of the set are related to
pub record Reached (old now : List (List Bool)) (a : ℕ) (passed : List Bool) : Type 0 where
  pub extends : Extends old now
  pub width : length passed ≡ length old
  pub passes : (k b : ℕ) → Has passed k → Holds now k b → Holds now a b

pub reached-none : (rows : List (List Bool)) (a n : ℕ) → n ≡ length rows → Reached rows rows a (replicate n false)
reached-none rows a n size = record {
  extends = extends-none rows;
  width = length-replicate n false ∙ size;
  passes = λ k b p h. absurd (has-none n k p);
}

-- and what one more is related to
pub reached-then : (old now next : List (List Bool)) (a k : ℕ) (passed more : List Bool) → Reached old now a passed → Holds now a k → more ≡ set passed k true → ((x y : ℕ) → Holds next x y ↔ (Holds now x y ⊎ ((x ≡ a) × Holds now k y))) → length next ≡ length now → Reached old next a more
reached-then old now next a k passed more r leads is takes size = record {
  extends = extends-then old now next r.extends (record {
    size = size;
    contains = λ x y h. (takes x y).1 (inl h);
    least = λ x y h. elim ((takes x y).0 h) [
      | inl was ↦ ([], was)
      | inr new ↦ (k ∷ [], (subst (λ v. Holds now v k) (sym new.0) leads, new.1))
    ];
  });
  width = ap length is ∙ length-set passed k true ∙ r.width;
  passes = λ j b p h. elim ((takes j b).0 h) [
    | inr new ↦ (takes a b).1 (inr (refl, new.1))
    | inl was ↦ elim (cases_eq j k) [
      | inl same ↦ (takes a b).1 (inr (refl, subst (λ v. Holds now v b) same was))
      | inr other ↦ (takes a b).1 (inl (r.passes j b (sym (get_or-set_other passed k j true false other) ∙ subst (λ s. Has s j) is p) was))
    ]
  ];
}

-- and what those are related to that a done one is related to
pub reached-more : (old now : List (List Bool)) (a k : ℕ) (passed more : List Bool) → Reached old now a passed → Has passed k → HasPassedOn old k → ((x : ℕ) → Has more x ↔ (Has passed x ⊎ Holds now k x)) → length more ≡ length passed → Reached old now a more
reached-more old now a k passed more r there done joins width = record {
  extends = r.extends;
  width = width ∙ r.width;
  passes = λ j b p h. elim ((joins j).0 p) [
    | inl was ↦ r.passes j b was h
    | inr new ↦ r.passes k b there (passed-stays old now k r.extends done j b new h)
  ];
}

-- nothing is left to take over
pub reached-all : (old now : List (List Bool)) (a : ℕ) (passed : List Bool) → Reached old now a passed → ((k : ℕ) → ¬ (Outside (row_of now a) passed k)) → HasPassedOn now a
reached-all old now a passed r none k b p q = elim (has-cases passed k) [
  | inl in' ↦ r.passes k b in' q
  | inr out ↦ absurd (none k (p, λ h. false≢true (sym out ∙ h)))
]

pub fewer-missing : (passed more : List Bool) (k : ℕ) → k < length passed → ¬ (Has passed k) → more ≡ set passed k true → missing_of more < missing_of passed
fewer-missing passed more k low out is =
    let counted = subst (λ f. missing_of passed ≡ missing_of (set passed k true) + cond (not f) 1 0) (not-has passed k out) (missing_of-set passed k low) in
    let same : missing_of more ≡ missing_of (set passed k true) = ap missing_of is in
    omega (arith, counted, same)

pub no-more-missing : (passed more : List Bool) (grown : Bool) → OnTrue grown (missing_of more < missing_of passed) → OnFalse grown (more ≡ passed) → missing_of more ≤ missing_of passed
no-more-missing passed more true grows stays = omega (arith, grows)
no-more-missing passed more false grows stays = let same = ap missing_of stays in omega (arith, same)

-- where each number is done the relation is transitive
pub closed-all : (done : List Bool) (rows : List (List Bool)) → AreClosed done rows → ((a : ℕ) → a < length rows → Has done a) → (a b c : ℕ) → Holds rows a b → Holds rows b c → Holds rows a c
closed-all done rows closed all a b c p q = closed a (all a (Holds-below rows a b p)) b c p q

-- how far a closing has come
pub record Closing (old now : List (List Bool)) (done passed : List Bool) : Type 0 where
  pub extends : Extends old now
  pub flags : length done ≡ length now
  pub width : length passed ≡ length now
  pub closed : AreClosed done now

pub closing-none : (rows : List (List Bool)) (n m : ℕ) → n ≡ length rows → m ≡ length rows → Closing rows rows (replicate n false) (replicate m false)
closing-none rows n m flags width = record {
  extends = extends-none rows;
  flags = length-replicate n false ∙ flags;
  width = length-replicate m false ∙ width;
  closed = λ a h. absurd (has-none n a h);
}

pub closing-then : (old now next : List (List Bool)) (done more passed left : List Bool) → Closing old now done passed → Extends now next → AreClosed more next → length more ≡ length next → length left ≡ length next → Closing old next more left
closing-then old now next done more passed left c e closed flags width = record {
  extends = extends-then old now next c.extends e;
  flags = flags;
  width = width;
  closed = closed;
}
