-- How the relations of layers are put together.
use Rattle.std.specs.Prelude.{◌≡◌, ◌↔◌, ◌⊎◌, ℕ, ◌+◌, ◌<◌, ◌≤◌, Bool, List, [], ◌∷◌, ◌++◌, length}
use Rattle.std.proofs.Common.{refl, sym, ◌∙◌, ap, subst, get_or, set, arith, inl, inr, length-append}
use Rattle.std.proofs.lemmas.Bool.{cases_lt, cases_eq}
use Rattle.sg_sets.specs.Rows.{Holds}
use Rattle.sg_kinds.specs.Visits.{row_at}
use Rattle.sg_dependencies.specs.declared.frame.Frame.{Frame}
use Rattle.sg_dependencies.specs.Induced.{relation_at}
use Rattle.sg_dependencies.specs.Rounds.{IsSpread, AreAlike, frame_at}
use Rattle.sg_dependencies.proofs.Families.{at_same, at_other, alike_itself, alike_set}
use Rattle.sg_orders.specs.Layerings.{IsLayered, AreLater, AreExtended}
use Rattle.sg_orders.proofs.Pushed.{push_each, row_read}

-- the pairs before (a, b) are related
pub record LaterTo (layers : List ℕ) (rows : List (List Bool)) (a b : ℕ) : Type 0 where
  pub size : length rows ≡ length layers
  pub sound : (x y : ℕ) → Holds rows x y → IsLayered layers x y
  pub before : (x y : ℕ) → x < a → IsLayered layers x y → Holds rows x y
  pub here : (y : ℕ) → y < b → IsLayered layers a y → Holds rows a y

pub later_over : (layers : List ℕ) (rows : List (List Bool)) (a b : ℕ) → LaterTo layers rows a b → (get_or layers b 0 < get_or layers a 0 → ⊥) → LaterTo layers rows a (b + 1)
later_over layers rows a b to out = record {
  size = to.size;
  sound = to.sound;
  before = to.before;
  here = λ y low is. elim (cases_lt y b) [
    | inl under ↦ to.here y under is
    | inr past ↦ absurd (let e : y ≡ b = omega (arith, low, past) in let l = is.earlier in out (subst (λ k. get_or layers k 0 < get_or layers a 0) e l))
  ];
}

pub later_pair : (layers : List ℕ) (now rows : List (List Bool)) (a b : ℕ) → LaterTo layers now a b → a < length layers → b < length layers → get_or layers b 0 < get_or layers a 0 → length rows ≡ length now
    → ((x y : ℕ) → Holds rows x y ↔ (Holds now x y ⊎ ((x ≡ a) × (y ≡ b)))) → LaterTo layers rows a (b + 1)
later_pair layers now rows a b to from there less long gains = record {
  size = long ∙ to.size;
  sound = λ x y h. elim ((gains x y).0 h) [ inl was ↦ to.sound x y was | inr is ↦ rw (is.0, is.1) (record { from = from; to = there; earlier = less }) ];
  before = λ x y low is. (gains x y).1 (inl (to.before x y low is));
  here = λ y low is. elim (cases_lt y b) [
    | inl under ↦ (gains a y).1 (inl (to.here y under is))
    | inr past ↦ (gains a y).1 (inr (refl, omega (arith, low, past)))
  ];
}

pub later_row : (layers : List ℕ) (rows : List (List Bool)) (a b : ℕ) → LaterTo layers rows a b → length layers ≤ b → LaterTo layers rows (a + 1) 0
later_row layers rows a b to end = record {
  size = to.size;
  sound = to.sound;
  before = λ x y low is. elim (cases_lt x a) [
    | inl under ↦ to.before x y under is
    | inr past ↦ let e : x ≡ a = omega (arith, low, past) in subst (λ k. Holds rows k y) (sym e) (to.here y (let t = is.to in omega (arith, t, end)) (subst (λ k. IsLayered layers k y) e is))
  ];
  here = λ y low is. absurd (omega (arith, low));
}

pub later_all : (layers : List ℕ) (rows : List (List Bool)) (a b : ℕ) → LaterTo layers rows a b → length layers ≤ a → (x y : ℕ) → Holds rows x y ↔ IsLayered layers x y
later_all layers rows a b to end x y = (to.sound x y, λ is. to.before x y (let f = is.from in omega (arith, f, end)) is)

-- the relations of the first i phyla
pub record AllLaterTo (layers : List (List ℕ)) (relations : List (List (List Bool))) (i : ℕ) : Type 0 where
  pub count : length relations ≡ i
  pub sizes : (X : ℕ) → X < i → length (relation_at relations X) ≡ length (row_at layers X)
  pub holds : (X a b : ℕ) → X < i → Holds (relation_at relations X) a b ↔ IsLayered (row_at layers X) a b

pub all_later_more : (layers : List (List ℕ)) (relations more : List (List (List Bool))) (i : ℕ) (row seen : List ℕ) (rows : List (List Bool)) → AllLaterTo layers relations i → i < length layers → row ≡ get_or layers i row → seen ≡ row
    → length rows ≡ length seen → ((a b : ℕ) → Holds rows a b ↔ IsLayered seen a b) → more ≡ relations ++ rows ∷ [] → AllLaterTo layers more (i + 1)
all_later_more layers relations more i row seen rows to low at looked size holds push =
    let here : seen ≡ row_at layers i = looked ∙ row_read layers i row low at in
    record {
      count = ap length push ∙ length-append relations (rows ∷ []) ∙ ap (λ n. n + 1) to.count;
      sizes = push_each relations more [] i rows to.count push (λ X r. length r ≡ length (row_at layers X)) to.sizes (size ∙ ap length here);
      holds = λ X a b. push_each relations more [] i rows to.count push (λ Y r. Holds r a b ↔ IsLayered (row_at layers Y) a b) (λ Y l. to.holds Y a b l)
          (subst (λ xs. Holds rows a b ↔ IsLayered xs a b) here (holds a b)) X;
    }

pub all_later_all : (layers : List (List ℕ)) (relations : List (List (List Bool))) (i : ℕ) → AllLaterTo layers relations i → i ≡ length layers → AreLater layers relations
all_later_all layers relations i to end = record {
  count = to.count ∙ end;
  sizes = λ X low. to.sizes X (omega (arith, low, end));
  holds = λ X a b low. to.holds X a b (omega (arith, low, end));
}

-- the first i operators are done
pub record ExtendedTo (frames : List Frame) (old new phyla : List (List (List Bool))) (i : ℕ) : Type 0 where
  pub alike : AreAlike old new
  pub gains : (p m n : ℕ) → p < i → Holds (relation_at new p) m n ↔ (Holds (relation_at old p) m n ⊎ IsSpread (frame_at frames p).spots phyla m n)
  pub same : (p : ℕ) → i ≤ p → relation_at new p ≡ relation_at old p

pub extended_none : (frames : List Frame) (old phyla : List (List (List Bool))) → ExtendedTo frames old old phyla 0
extended_none frames old phyla = record { alike = alike_itself old; gains = λ p m n low. absurd (omega (arith, low)); same = λ p low. refl }

pub extended_more : (frames : List Frame) (old now phyla : List (List (List Bool))) (i : ℕ) (rows : List (List Bool)) → ExtendedTo frames old now phyla i → i < length now → length rows ≡ length (relation_at now i)
    → ((m n : ℕ) → Holds rows m n ↔ (Holds (relation_at now i) m n ⊎ IsSpread (frame_at frames i).spots phyla m n)) → ExtendedTo frames old (set now i rows) phyla (i + 1)
extended_more frames old now phyla i rows to there size spreads = record {
  alike = alike_set old now i rows to.alike there size;
  gains = λ p m n low. elim (cases_eq p i) [
    | inl e ↦ subst (λ q. Holds (relation_at (set now i rows) q) m n ↔ (Holds (relation_at old q) m n ⊎ IsSpread (frame_at frames q).spots phyla m n)) (sym e)
        (subst (λ r. Holds r m n ↔ (Holds (relation_at old i) m n ⊎ IsSpread (frame_at frames i).spots phyla m n)) (sym (at_same now i rows there))
        (subst (λ r. Holds rows m n ↔ (Holds r m n ⊎ IsSpread (frame_at frames i).spots phyla m n)) (to.same i (omega arith)) (spreads m n)))
    | inr other ↦ subst (λ r. Holds r m n ↔ (Holds (relation_at old p) m n ⊎ IsSpread (frame_at frames p).spots phyla m n)) (sym (at_other now i p rows other)) (to.gains p m n (omega (arith, low, other)))
  ];
  same = λ p low. at_other now i p rows (λ e. omega (arith, e, low)) ∙ to.same p (omega (arith, low));
}

pub extended_all : (frames : List Frame) (old new phyla : List (List (List Bool))) (i : ℕ) → ExtendedTo frames old new phyla i → length frames ≤ i → AreExtended frames old new phyla
extended_all frames old new phyla i to end = record { alike = to.alike; gains = λ p m n low. to.gains p m n (omega (arith, low, end)) }
