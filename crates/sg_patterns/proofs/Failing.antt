-- What is known to fail, from place to place.
use Rattle.std.proofs.Common.{◌≡◌, ℕ, zero, suc, ◌+◌, ◌<◌, ◌≤◌, inl, inr, List, [], ◌∷◌, ◌++◌, Bool, true, false, length, refl, sym, ap, ◌∙◌, subst, arith, Some, length-append}
use Rattle.std.specs.Prelude.{slice_get, get_or, nat_eq}
use Rattle.std.specs.List.{All}
use Rattle.std.proofs.Math.ListN.{set, length-set}
use Rattle.std.proofs.lemmas.List.Elements.{All-weaker, All-get_or, All-set}
use Rattle.std.proofs.lemmas.Option.{slice_get_within, slice_get-get_or}
use Rattle.sg_kinds.specs.Lexemes.{Lexeme}
use Rattle.sg_kinds.specs.Values.{Bytes}
use Rattle.sg_patterns.specs.declared.program.Node.TheVariants as node
use Rattle.sg_patterns.specs.declared.program.Program.{Program}
use Rattle.sg_patterns.specs.declared.failures.Checkpoint.{Checkpoint}
use Rattle.sg_patterns.specs.declared.failures.Failures.{Failures}
use Rattle.sg_patterns.specs.Trees.{Tree, Nothing, OneByte, Then, Either, Many, Several, Maybe}
use Rattle.sg_patterns.specs.Flags.{flag_at}
use Rattle.sg_patterns.specs.Programs.{AreLaidOut, ArePrograms, IsProgram}
use Rattle.sg_patterns.specs.Spent.{Rest, IsSpent, IsFailure, AreSpent, AreSpentIf, HasSize, AreFailures, HaveFailures}
use Rattle.sg_patterns.specs.Marks.{HasBegins, HasFinalsTo, IsDead}
use Rattle.sg_patterns.specs.LongestMatch.{IsLength, Pattern}
use Rattle.sg_patterns.proofs.LongestSoFar.{Matched, step-final, step-on, step-dead, step-dead-spent, step-spent}

-- the flags of a program's nodes are alike
abbrev pub Alike : ℕ → List Bool → List Bool → Type 0
Alike n f g = (k : ℕ) → k < n → flag_at f k ≡ flag_at g k

-- the rest is one of the flags of the program's nodes
rest-alike : (text : Bytes) (p : Program) (f g : List Bool) → Alike (length p.nodes.items) f g → (t : Tree) → AreLaidOut p.nodes.items p.above.items p.empties.items t → (j e : ℕ) → Rest text (flag_at f) t j e → Rest text (flag_at g) t j e
rest-alike text p f g like (Nothing k) st j e r = r
rest-alike text p f g like (OneByte k l) st j e r = (sym (like k (slice_get_within p.nodes.items k (node.Leaf l) st.0)) ∙ r.0, r.1)
rest-alike text p f g like (Then k t u) st j e (inl r) = inl (r.0, rest-alike text p f g like t st.4 j r.0 r.1, r.2)
rest-alike text p f g like (Then k t u) st j e (inr r) = inr (rest-alike text p f g like u st.5 j e r)
rest-alike text p f g like (Either k t u) st j e (inl r) = inl (rest-alike text p f g like t st.4 j e r)
rest-alike text p f g like (Either k t u) st j e (inr r) = inr (rest-alike text p f g like u st.5 j e r)
rest-alike text p f g like (Many k t) st j e r = (r.0, rest-alike text p f g like t st.3 j r.0 r.1, r.2)
rest-alike text p f g like (Several k t) st j e r = (r.0, rest-alike text p f g like t st.3 j r.0 r.1, r.2)
rest-alike text p f g like (Maybe k t) st j e r = rest-alike text p f g like t st.3 j e r

pub spent-alike : (text : Bytes) (p : Program) (f g : List Bool) (t : Tree) (place : ℕ) → AreLaidOut p.nodes.items p.above.items p.empties.items t → Alike (length p.nodes.items) f g → IsSpent text t place g → IsSpent text t place f
spent-alike text p f g t place st like spent e less r = spent e less (rest-alike text p f g like t st place e r)

module _ (text : Bytes) (t : Tree) where
  -- what is spent is so whatever the flags are
  pub spent-if : (bound place : ℕ) (f : List Bool) (x : Failures) → AreSpent text t x → AreSpentIf text t bound place f x
  spent-if bound place f x known = All-weaker (IsFailure text t x.after) (λ c. (c.place < bound → IsSpent text t place f) → IsFailure text t x.after c) (λ c h _. h) x.checkpoints.items known

  pub if-spent : (bound place : ℕ) (f : List Bool) (x : Failures) → AreSpentIf text t bound place f x → IsSpent text t place f → AreSpent text t x
  if-spent bound place f x known spent = All-weaker (λ c. (c.place < bound → IsSpent text t place f) → IsFailure text t x.after c) (IsFailure text t x.after) (λ c h. h (λ _. spent)) x.checkpoints.items known

  -- what is spent if these flags are is spent if those are
  pub if-on : (bound place next : ℕ) (f h : List Bool) (x : Failures) → (IsSpent text t next h → IsSpent text t place f) → AreSpentIf text t bound place f x → AreSpentIf text t bound next h x
  if-on bound place next f h x back known =
      All-weaker (λ c. (c.place < bound → IsSpent text t place f) → IsFailure text t x.after c) (λ c. (c.place < bound → IsSpent text t next h) → IsFailure text t x.after c) (λ c k spent. k (λ less. back (spent less))) x.checkpoints.items known

  -- where a match ends nothing is known of the places up to there
  pub if-final : (bound place next : ℕ) (f h : List Bool) (x y : Failures) → y.checkpoints ≡ x.checkpoints → x.after ≤ y.after → bound ≤ suc y.after → AreSpentIf text t bound place f x → AreSpentIf text t (bound + 1) next h y
  if-final bound place next f h x y same low high known =
      subst (All (λ c. (c.place < bound + 1 → IsSpent text t next h) → IsFailure text t y.after c)) (sym (ap (λ v. v.items) same))
      (All-weaker (λ c. (c.place < bound → IsSpent text t place f) → IsFailure text t x.after c) (λ c. (c.place < bound + 1 → IsSpent text t next h) → IsFailure text t y.after c)
      (λ c k _ less. k (λ below. absurd (omega arith)) (omega arith)) x.checkpoints.items known)

  -- one bound further
  pub if-more : (bound place : ℕ) (f : List Bool) (x : Failures) → AreSpentIf text t bound place f x → AreSpentIf text t (bound + 1) place f x
  if-more bound place f x known =
      All-weaker (λ c. (c.place < bound → IsSpent text t place f) → IsFailure text t x.after c) (λ c. (c.place < bound + 1 → IsSpent text t place f) → IsFailure text t x.after c)
      (λ c k spent. k (λ less. spent (omega arith))) x.checkpoints.items known

module _ {A : Type 0} {B : Type 0} (R : A → B → Type 0) where
  -- two lists agree place by place
  abbrev Pairs : List A → List B → Type 0
  Pairs xs ys = (k : ℕ) (x : A) (y : B) → slice_get xs k ≡ Some x → slice_get ys k ≡ Some y → R x y

  pairs-one : (a x : A) (b y : B) → R a b → Some a ≡ Some x → Some b ≡ Some y → R x y
  pairs-one a x b y r e f = let first : a ≡ x = cc in let second : b ≡ y = cc in subst (λ z. R z y) first (subst (R a) second r)

  pairs-more : (xs : List A) (ys : List B) (a : A) (b : B) → length ys ≡ length xs → Pairs xs ys → R a b → Pairs (xs ++ a ∷ []) (ys ++ b ∷ [])
  pairs-more [] [] a b len each r zero x y e f = pairs-one a x b y r e f
  pairs-more [] [] a b len each r (suc k) x y e f = absurd (cc)
  pairs-more [] (y ∷ ys) a b len each r k x z e f = absurd (omega (arith, len))
  pairs-more (x ∷ xs) [] a b len each r k z y e f = absurd (omega (arith, len))
  pairs-more (x ∷ xs) (y ∷ ys) a b len each r zero z w e f = each zero z w e f
  pairs-more (x ∷ xs) (y ∷ ys) a b len each r (suc k) z w e f = pairs-more xs ys a b (omega (arith, len)) (λ j. each (suc j)) r k z w e f

  pairs-set : (xs : List A) (ys : List B) (n : ℕ) (a : A) (b : B) → slice_get xs n ≡ Some a → Pairs xs ys → R a b → Pairs xs (set ys n b)
  pairs-set [] ys n a b is each r k x y e f = absurd (cc)
  pairs-set (x ∷ xs) [] n a b is each r k z y e f = absurd (cc)
  pairs-set (x ∷ xs) (y ∷ ys) zero a b is each r zero z w e f = pairs-one a z b w r (sym is ∙ e) f
  pairs-set (x ∷ xs) (y ∷ ys) zero a b is each r (suc k) z w e f = each (suc k) z w e f
  pairs-set (x ∷ xs) (y ∷ ys) (suc n) a b is each r zero z w e f = each zero z w e f
  pairs-set (x ∷ xs) (y ∷ ys) (suc n) a b is each r (suc k) z w e f = pairs-set xs ys n a b is (λ j. each (suc j)) r k z w e f

-- the program of one pattern more
pub programs-more : (programs : List Program) (ps : List Lexeme) (p : Program) (q : Lexeme) → ArePrograms programs ps → IsProgram p q → ArePrograms (programs ++ p ∷ []) (ps ++ q ∷ [])
programs-more programs ps p q are is = record {
  same = omega (arith, are.same, length-append programs (p ∷ []), length-append ps (q ∷ []));
  each = pairs-more IsProgram programs ps p q (sym are.same) are.each is;
}

-- what is known of one program more
pub have-more : (programs : List Program) (text : Bytes) (all : List Failures) (p : Program) (x : Failures) → HaveFailures programs text all → AreFailures p text x → HaveFailures (programs ++ p ∷ []) text (all ++ x ∷ [])
have-more programs text all p x have are = record {
  same = omega (arith, have.same, length-append programs (p ∷ []), length-append all (x ∷ []));
  each = pairs-more (λ q y. AreFailures q text y) programs all p x have.same have.each are;
}

-- what is known of one of them
pub have-set : (programs : List Program) (text : Bytes) (all : List Failures) (k : ℕ) (p : Program) (x : Failures) → slice_get programs k ≡ Some p → HaveFailures programs text all → AreFailures p text x → HaveFailures programs text (set all k x)
have-set programs text all k p x is have are = record {
  same = length-set all k x ∙ have.same;
  each = pairs-set (λ q y. AreFailures q text y) programs all k p x is have.each are;
}

-- a run that stands at a checkpoint, with the flags kept there
pub kept-spent : (text : Bytes) (p : Program) (q : Lexeme) (h : IsProgram p q) (level place : ℕ) (c : Checkpoint) (f : List Bool) (x : Failures) → c ≡ get_or x.checkpoints.items level c → level < length x.checkpoints.items → x.after < place → c.place ≡ place → Alike (length c.flags.items) c.flags.items f → HasSize (length p.nodes.items) x → AreSpentIf text h.tree place place f x → IsSpent text h.tree place f
kept-spent text p q h level place c f x is within after here like sized known =
    let size = subst (λ d. length d.flags.items ≡ length p.nodes.items) (sym is) (All-get_or (λ d. length d.flags.items ≡ length p.nodes.items) x.checkpoints.items level c within sized) in
    let holds = subst (λ d. (d.place < place → IsSpent text h.tree place f) → IsFailure text h.tree x.after d) (sym is) (All-get_or (λ d. (d.place < place → IsSpent text h.tree place f) → IsFailure text h.tree x.after d) x.checkpoints.items level c within known) in
    let spent = holds (λ less. absurd (omega (arith, here))) (omega (arith, here)) in
    spent-alike text p f c.flags.items h.tree place h.stands (λ k less. sym (like k (omega (arith, size)))) (subst (λ j. IsSpent text h.tree j c.flags.items) here spent)

-- a new checkpoint
pub kept-more : (text : Bytes) (p : Program) (q : Lexeme) (h : IsProgram p q) (level place : ℕ) (c d : Checkpoint) (f : List Bool) (x : Failures) → c ≡ get_or x.checkpoints.items level c → level < length x.checkpoints.items → d.place ≡ place → Alike (length c.flags.items) d.flags.items f → HasSize (length p.nodes.items) x → AreSpentIf text h.tree place place f x → All (λ e. (e.place < place + 1 → IsSpent text h.tree place f) → IsFailure text h.tree x.after e) (set x.checkpoints.items level d)
kept-more text p q h level place c d f x is within here like sized known =
    let size = subst (λ e. length e.flags.items ≡ length p.nodes.items) (sym is) (All-get_or (λ e. length e.flags.items ≡ length p.nodes.items) x.checkpoints.items level c within sized) in
    All-set (λ e. (e.place < place + 1 → IsSpent text h.tree place f) → IsFailure text h.tree x.after e) x.checkpoints.items level d
    (λ give _. subst (λ j. IsSpent text h.tree j d.flags.items) (sym here) (spent-alike text p d.flags.items f h.tree place h.stands (λ k less. like k (omega (arith, size))) (give (omega (arith, here)))))
    (if-more text h.tree place place f x known)

-- what a step of a run from `at` over the byte at a place says
pub record Step (p : Program) (text : Bytes) (t : Tree) (q : Lexeme) (f h : List Bool) (at place longest : ℕ) : Type 0 where
  pub dead-length : IsDead p (length p.nodes.items) h → IsLength (Pattern q) text at longest
  pub dead-spent : IsDead p (length p.nodes.items) h → IsSpent text t place f
  pub on : flag_at h p.root ≡ false → Matched text t h at (place + 1) longest
  pub back : flag_at h p.root ≡ false → IsSpent text t (place + 1) h → IsSpent text t place f
  pub final : flag_at h p.root ≡ true → (n : ℕ) → at + n ≡ place + 1 → Matched text t h at (place + 1) n

pub stepped : (p : Program) (text : Bytes) (q : Lexeme) (is : IsProgram p q) (f g h : List Bool) (at place longest : ℕ) → Matched text is.tree f at place longest → at ≤ place → place < length text → HasBegins p (nat_eq place at) f g → HasFinalsTo p (length p.nodes.items) (get_or text place 0) g h → Step p text is.tree q f h at place longest
stepped p text q is f g h at place longest m le within hb hf =
    let here = slice_get-get_or text place 0 within in
    let top = ap (slice_get p.above.items) is.is_root ∙ is.is_top in
    let next : suc place ≡ place + 1 = omega arith in
    let root = ap (flag_at h) is.is_root in
    let b = get_or text place 0 in
    let starts = nat_eq place at in
    record {
      dead-length = λ dead. subst (λ r. IsLength (Pattern r) text at longest) is.is_pattern (step-dead p text is.tree is.stands f g h at place longest b starts m le here top refl hb hf dead);
      dead-spent = step-dead-spent p text is.tree is.stands f g h at place longest b starts m le here top refl hb hf;
      on = λ off. subst (λ j. Matched text is.tree h at j longest) next (step-on p text is.tree is.stands f g h at place longest b starts m le here top refl hb hf (root ∙ off));
      back = λ off spent. step-spent p text is.tree is.stands f g h at place longest b starts m le here top refl hb hf (root ∙ off) (subst (λ j. IsSpent text is.tree j h) (sym next) spent);
      final = λ up n ends. subst (λ j. Matched text is.tree h at j n) next (step-final p text is.tree is.stands f g h at place longest b starts m le here top refl hb hf n (root ∙ up) (ends ∙ sym next));
    }
