-- Values that match patterns.
use Rattle.std.specs.Prelude.{◌≡◌, refl, ℕ, suc, ◌+◌, ◌<◌, ◌≤◌, Bool, true, false, cond, List, [], ◌∷◌, ◌++◌, length, map, Option, Some, None, option_map, option_and_then, Result, Ok, Err, IfOk, All}
use Rattle.std.proofs.Common.{sym, ◌∙◌, ap, subst, arith, append_assoc, rules}
use Rattle.std.proofs.lemmas.List.{map-append}
use Rattle.sg_kinds.specs.Values.{Value, Values, Truth, Number, Chars, Tree, Fault, AndValue, size_of, sizes_of, row_of}
use Rattle.sg_kinds.specs.Expressions.{Pattern, Patterns, Applied, NoPattern, AndPattern}
use Rattle.sg_kinds.specs.declared.spec.Spec.{Spec}
use Rattle.sg_kinds.specs.Evaluation.{bound_by, bound_by_all, nothing_if}
use Rattle.sg_kinds.specs.SameValue.{nat_same}
use Rattle.sg_pool.specs.Pools.{value_at, tree_over, IsGrown}
use Rattle.sg_pool.proofs.Grown.{grown_longer}
use Rattle.sg_eval.specs.Lives.{value_in, AreKnown, IsMatched}
use Rattle.sg_eval.specs.declared.live.Live.{Live}
use Rattle.sg_eval.proofs.Bindings.{known_more, lives_stay}

-- how large patterns are
abbrev mutual
  pub weight_of : Pattern → ℕ
  weight_of (Applied op ps) = suc (weights_of ps)
  weight_of p = 0

  pub weights_of : Patterns → ℕ
  weights_of NoPattern = 0
  weights_of (AndPattern p ps) = suc (weight_of p + weights_of ps)

pub all_rest : (n k : ℕ) (ks rest : List ℕ) → ks ≡ k ∷ rest → All (λ j. j < n) ks → All (λ j. j < n) rest
all_rest n k ks rest e h = λ i d l. subst (All (λ j. j < n)) e h (suc i) d (omega (arith, l))

size_pos : (v : Value) → 0 < size_of v
size_pos (Truth b) = omega arith
size_pos (Number z) = omega arith
size_pos (Chars s) = omega arith
size_pos (Tree op vs) = omega arith
size_pos (Fault kind) = omega arith

pub sizes_fall : (vs rest : List Value) (v : Value) → vs ≡ v ∷ rest → sizes_of (row_of rest) < sizes_of (row_of vs)
sizes_fall vs rest v e = let p = size_pos v in rw e (omega (arith, p))

pub size_first : (vs rest : List Value) (v : Value) → vs ≡ v ∷ rest → size_of v ≤ sizes_of (row_of vs)
size_first vs rest v e = rw e (omega arith)

known_append : (n : ℕ) (xs ys : List Live) → AreKnown n xs → AreKnown n ys → AreKnown n (xs ++ ys)
known_append n [] ys h k = k
known_append n (x ∷ xs) ys h k = (h.0, known_append n xs ys h.1 k)

-- nothing is bound
pub matched_if : (pool : List Value) (o : Option (List Value)) (before : List Live) (b : Bool) → o ≡ nothing_if b → IsMatched pool o before before b
matched_if pool o before b e = record { more = []; pushed = sym (search rules); known = tt; bound = e ∙ by b }
  where
    by : (b : Bool) → nothing_if b ≡ cond b (Some []) None
    by true = refl
    by false = refl

-- a pattern and those behind it
pub matched_both : (spec : Spec) (pool : List Value) (first : Pattern) (rest : Patterns) (v : Value) (vs : Values) (before mid after : List Live) (b : Bool)
    → IsMatched pool (bound_by spec first v) before mid true → IsMatched pool (bound_by_all spec rest vs) mid after b → IsMatched pool (bound_by_all spec (AndPattern first rest) (AndValue v vs)) before after b
matched_both spec pool first rest v vs before mid after b m n = record {
  more = m.more ++ n.more;
  pushed = n.pushed ∙ ap (λ l. l ++ n.more) m.pushed ∙ append_assoc before m.more n.more;
  known = known_append (length pool) m.more n.more m.known n.known;
  bound = ap (λ o. option_and_then (λ bs. option_map (λ cs. bs ++ cs) (bound_by_all spec rest vs)) o) m.bound ∙ ap (option_map (λ cs. map (value_in pool) m.more ++ cs)) n.bound ∙ by b;
}
  where
    by : (b : Bool) → option_map (λ cs. map (value_in pool) m.more ++ cs) (cond b (Some (map (value_in pool) n.more)) None) ≡ cond b (Some (map (value_in pool) (m.more ++ n.more))) None
    by true = ap Some (sym (map-append (value_in pool) m.more n.more))
    by false = refl

-- a pattern that does not match, whatever stands behind it
pub matched_not : (spec : Spec) (pool : List Value) (first : Pattern) (rest : Patterns) (v : Value) (vs : Values) (before after : List Live)
    → IsMatched pool (bound_by spec first v) before after false → IsMatched pool (bound_by_all spec (AndPattern first rest) (AndValue v vs)) before after false
matched_not spec pool first rest v vs before after m = record {
  more = m.more;
  pushed = m.pushed;
  known = m.known;
  bound = ap (λ o. option_and_then (λ bs. option_map (λ cs. bs ++ cs) (bound_by_all spec rest vs)) o) m.bound;
}

-- what was matched in a pool was so in a larger one
pub matched_later : (pool later : List Value) (o p : Option (List Value)) (before after : List Live) (b : Bool) → IsGrown pool later → p ≡ o → IsMatched pool o before after b → IsMatched later p before after b
matched_later pool later o p before after b g e m = record {
  more = m.more;
  pushed = m.pushed;
  known = known_more (length pool) (length later) m.more (grown_longer pool later g) m.known;
  bound = e ∙ m.bound ∙ ap (λ bs. cond b (Some bs) None) (sym (lives_stay pool later m.more g m.known));
}

-- the tree of an operator, by the numbers of its children
pub matched_tree : (spec : Spec) (pool : List Value) (op : ℕ) (ps : Patterns) (x : Live) (kids : List ℕ) (before after : List Live) (b : Bool) → value_in pool x ≡ tree_over pool op kids
    → IsMatched pool (bound_by_all spec ps (row_of (map (value_at pool) kids))) before after b → IsMatched pool (bound_by spec (Applied op ps) (value_in pool x)) before after b
matched_tree spec pool op ps x kids before after b is m =
    let vs = row_of (map (value_at pool) kids) in
    let same : bound_by spec (Applied op ps) (value_in pool x) ≡ bound_by_all spec ps vs = ap (bound_by spec (Applied op ps)) is ∙ ap (λ c. cond c (bound_by_all spec ps vs) None) (nat_same op) in
    subst (λ o. IsMatched pool o before after b) (sym same) m

pub if_ok_more : {A E : Type 0} → (r : Result A E) (P Q : A → Type 0) → ((x : A) → P x → Q x) → IfOk r P → IfOk r Q
if_ok_more (Ok x) P Q f h = f x h
if_ok_more (Err e) P Q f h = tt
