-- A pool that grows.
use Rattle.std.specs.Prelude.{◌≡◌, refl, ℕ, zero, suc, ◌+◌, ◌<◌, ◌≤◌, Bool, true, false, cond, ◌&&◌, nat_le, List, [], ◌∷◌, ◌++◌, map, length, All, IsTrue}
use Rattle.std.proofs.Common.{sym, ◌∙◌, ap, subst, arith, append_assoc, length-append, rules}
use Rattle.std.proofs.lemmas.List.{map-append}
use Rattle.std.proofs.lemmas.Option.{slice_get_within}
use Rattle.sg_kinds.specs.Values.{Value, Truth, Number, Chars, Tree, Fault, row_of, size_of, sizes_of, depth_of, depths_of, is_within, size_limit, depth_limit}
use Rattle.sg_pool.specs.Pools.{value_at, tree_over, has_value, with_value, interned, interned_all, is_kept, IsGrown, StandsFor}
use Rattle.sg_pool.specs.PoolView.{AreBelow}
use Rattle.sg_kinds.specs.SameValue.{both}
use Rattle.sg_pool.proofs.Pooled.{map-value_at, below_more}

pub grown_itself : (vs : List Value) → IsGrown vs vs
grown_itself vs = record { more = []; is = sym (search rules) }

pub grown_twice : (us vs ws : List Value) → IsGrown us vs → IsGrown vs ws → IsGrown us ws
grown_twice us vs ws g h = record { more = g.more ++ h.more; is = h.is ∙ ap (λ l. l ++ h.more) g.is ∙ append_assoc us g.more h.more }

pub grown_with : (vs : List Value) (v : Value) → IsGrown vs (with_value vs v)
grown_with vs v = by (has_value vs v) refl
  where
    by : (b : Bool) → has_value vs v ≡ b → IsGrown vs (with_value vs v)
    by true e = subst (λ c. IsGrown vs (cond c vs (vs ++ v ∷ []))) (sym e) (grown_itself vs)
    by false e = subst (λ c. IsGrown vs (cond c vs (vs ++ v ∷ []))) (sym e) (record { more = v ∷ []; is = refl })

pub grown_longer : (us vs : List Value) → IsGrown us vs → length us ≤ length vs
grown_longer us vs g = let l : length (us ++ g.more) ≡ length us + length g.more = length-append us g.more in subst (λ ws. length us ≤ length ws) (sym g.is) (omega (arith, l))

-- numbers keep their values
pub map_stays : (us vs : List Value) (ks : List ℕ) → IsGrown us vs → AreBelow (length us) ks → map (value_at vs) ks ≡ map (value_at us) ks
map_stays us vs ks g h = ap (λ l. map (value_at l) ks) g.is ∙ map-value_at us g.more ks h

pub stands_at : (vs : List Value) (k : ℕ) (v : Value) → StandsFor vs k v → value_at vs k ≡ v
stands_at vs k v h = rw h refl

pub map_push : (vs : List Value) (ks : List ℕ) (k : ℕ) (v : Value) → StandsFor vs k v → map (value_at vs) (ks ++ k ∷ []) ≡ map (value_at vs) ks ++ v ∷ []
map_push vs ks k v h = map-append (value_at vs) ks (k ∷ []) ∙ ap (λ x. map (value_at vs) ks ++ x ∷ []) (stands_at vs k v h)

pub below_push : (n : ℕ) (ks : List ℕ) (k : ℕ) → AreBelow n ks → k < n → AreBelow n (ks ++ k ∷ [])
below_push n [] k h l = (l, tt)
below_push n (j ∷ ks) k h l = (h.0, below_push n ks k h.1 l)

-- a step of putting values in: the numbers so far, and one more
module _ (us vs : List Value) (ks : List ℕ) (k : ℕ) (v : Value) (g : IsGrown us vs) (below : AreBelow (length us) ks) (h : StandsFor vs k v) where
  pub numbers_push : (done : List Value) → map (value_at us) ks ≡ done → map (value_at vs) (ks ++ k ∷ []) ≡ done ++ v ∷ []
  numbers_push done e = map_push vs ks k v h ∙ ap (λ l. l ++ v ∷ []) (map_stays us vs ks g below ∙ e)

  pub below_grown : AreBelow (length vs) (ks ++ k ∷ [])
  below_grown = below_push (length vs) ks k (below_more (length us) (length vs) ks (grown_longer us vs g) below) (slice_get_within vs k v h)

-- the children of a tree in the limits are in the limits
le_true : (a b : ℕ) → nat_le a b ≡ true → a ≤ b
le_true a b h = grind arith

true_le : (a b : ℕ) → a ≤ b → nat_le a b ≡ true
true_le a b h = grind arith

within_parts : (s d : ℕ) → s ≤ size_limit → d ≤ depth_limit → nat_le s size_limit && nat_le d depth_limit ≡ true
within_parts s d hs hd = rw (true_le s size_limit hs, true_le d depth_limit hd) refl

kept_within : (v : Value) → is_within v ≡ true → is_kept v ≡ true
kept_within (Truth b) h = h
kept_within (Number z) h = h
kept_within (Chars s) h = refl
kept_within (Tree op vs) h = h
kept_within (Fault kind) h = h

pub all_kept : (vs : List Value) → sizes_of (row_of vs) ≤ size_limit → depths_of (row_of vs) ≤ depth_limit → All (λ v. IsTrue (is_kept v)) vs
all_kept [] hs hd i d l = absurd (omega arith)
all_kept (v ∷ vs) hs hd zero d l = subst IsTrue (sym (kept_within v (within_parts (size_of v) (depth_of v) (omega (arith, hs)) (omega (arith, hd))))) refl
all_kept (v ∷ vs) hs hd (suc i) d l = all_kept vs (omega (arith, hs)) (omega (arith, hd)) i d (omega arith)

pub kids_kept : (op : ℕ) (vs : List Value) → is_within (Tree op (row_of vs)) ≡ true → All (λ v. IsTrue (is_kept v)) vs
kids_kept op vs h =
    let b = both (nat_le (suc (sizes_of (row_of vs))) size_limit) (nat_le (suc (depths_of (row_of vs))) depth_limit) h in
    all_kept vs (omega (arith, le_true _ _ b.0)) (omega (arith, le_true _ _ b.1))

-- a tree is put in after its children
pub interned_tree : (old new : List Value) (op : ℕ) (vs : List Value) (ks : List ℕ) (v : Value) → v ≡ Tree op (row_of vs) → map (value_at new) ks ≡ vs → new ≡ interned_all old (row_of vs)
    → with_value new (tree_over new op ks) ≡ interned old v
interned_tree old new op vs ks v tree numbers pool =
    ap (λ l. with_value new (Tree op (row_of l))) numbers ∙ ap (λ l. with_value l (Tree op (row_of vs))) pool ∙ ap (interned old) (sym tree)

pub grown_same : (us vs : List Value) → vs ≡ us → IsGrown us vs
grown_same us vs e = subst (IsGrown us) (sym e) (grown_itself us)

pub grown_put : (us vs : List Value) (v : Value) → vs ≡ with_value us v → IsGrown us vs
grown_put us vs v e = subst (IsGrown us) (sym e) (grown_with us v)
