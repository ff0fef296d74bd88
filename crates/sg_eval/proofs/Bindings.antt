-- Bindings and the pool on which they stand.
use Rattle.std.specs.Prelude.{◌≡◌, refl, ℕ, zero, suc, ◌-◌, ◌<◌, ◌≤◌, List, [], ◌∷◌, ◌++◌, length, map, Some, slice_get, option_map, All, IsTrue}
use Rattle.std.proofs.Common.{sym, ◌∙◌, ap, subst, arith, append_assoc, get_or}
use Rattle.std.proofs.lemmas.List.{map-append}
use Rattle.std.proofs.lemmas.Option.{slice_get-map, slice_get_within}
use Rattle.sg_kinds.specs.Values.{Value}
use Rattle.sg_pool.specs.Pools.{value_at, StandsFor, IsGrown}
use Rattle.sg_pool.proofs.Grown.{grown_longer, map_stays, stands_at}
use Rattle.sg_eval.specs.Lives.{value_in, IsKnown, AreKnown, bindings, bound_in, is_settled, IsUsable, AreUsable}
use Rattle.sg_eval.specs.declared.live.Live.{Live}
use Rattle.sg_eval.specs.declared.live.Live.TheVariants as live

-- an argument, and what was bound since
pub binding_left : (args : List ℕ) (env : List Live) (k d : ℕ) → k < length args → slice_get (bindings args env) k ≡ Some (live.Kept (get_or args k d))
binding_left [] env k d h = absurd (omega arith)
binding_left (a ∷ args) env zero d h = refl
binding_left (a ∷ args) env (suc k) d h = binding_left args env k d (omega arith)

pub binding_right : (args : List ℕ) (env : List Live) (k : ℕ) → length args ≤ k → slice_get (bindings args env) k ≡ slice_get env (k - length args)
binding_right [] env k h = let e : k - 0 ≡ k = omega arith in rw e refl
binding_right (a ∷ args) env zero h = absurd (omega arith)
binding_right (a ∷ args) env (suc k) h = let e : suc k - length (a ∷ args) ≡ k - length args = omega arith in rw e (binding_right args env k (omega arith))

-- the value of a binding
pub bound_at : (pool : List Value) (args : List ℕ) (env : List Live) (k : ℕ) → slice_get (bound_in pool args env) k ≡ option_map (value_in pool) (slice_get (bindings args env) k)
bound_at pool args env k = slice_get-map (value_in pool) (bindings args env) k

-- a number among known ones is known
pub known_at : (n : ℕ) (ls : List Live) (k id : ℕ) → AreKnown n ls → slice_get ls k ≡ Some (live.Kept id) → id < n
known_at n [] k id h e = cc
known_at n (l ∷ ls) zero id h e = let same : l ≡ live.Kept id = cc in subst (IsKnown n) same h.0
known_at n (l ∷ ls) (suc k) id h e = known_at n ls k id h.1 e

known_more_one : (m n : ℕ) (l : Live) → m ≤ n → IsKnown m l → IsKnown n l
known_more_one m n live.False le h = tt
known_more_one m n live.True le h = tt
known_more_one m n (live.Number z) le h = tt
known_more_one m n (live.Kept k) le h = omega (arith, h)

-- what is known stays known in a larger pool
pub known_stays : (us vs : List Value) (l : Live) → IsGrown us vs → IsKnown (length us) l → IsKnown (length vs) l
known_stays us vs l g h = known_more_one (length us) (length vs) l (grown_longer us vs g) h

pub known_more : (m n : ℕ) (ls : List Live) → m ≤ n → AreKnown m ls → AreKnown n ls
known_more m n [] l h = tt
known_more m n (x ∷ ls) l h = (known_more_one m n x l h.0, known_more m n ls l h.1)

-- what stands for a value stands for it in a larger pool
pub value_stays : (us vs : List Value) (k : ℕ) → IsGrown us vs → k < length us → value_at vs k ≡ value_at us k
value_stays us vs k g h = let e : map (value_at vs) (k ∷ []) ≡ map (value_at us) (k ∷ []) = map_stays us vs (k ∷ []) g (h, tt) in cc

pub stands_later : (us vs : List Value) (k : ℕ) (v : Value) → StandsFor us k v → IsGrown us vs → value_at vs k ≡ v
stands_later us vs k v s g = value_stays us vs k g (slice_get_within us k v s) ∙ stands_at us k v s

pub live_stays : (us vs : List Value) (l : Live) → IsGrown us vs → IsKnown (length us) l → value_in vs l ≡ value_in us l
live_stays us vs live.False g h = refl
live_stays us vs live.True g h = refl
live_stays us vs (live.Number z) g h = refl
live_stays us vs (live.Kept k) g h = value_stays us vs k g h

pub lives_stay : (us vs : List Value) (ls : List Live) → IsGrown us vs → AreKnown (length us) ls → map (value_in vs) ls ≡ map (value_in us) ls
lives_stay us vs [] g h = refl
lives_stay us vs (l ∷ ls) g h = let a = live_stays us vs l g h.0 in let b = lives_stay us vs ls g h.1 in cc

-- what an evaluation gives is known
pub kept_known : (pool : List Value) (k : ℕ) → IsTrue (is_settled (value_at pool k)) → k < length pool
kept_known [] k h = cc
kept_known (v ∷ pool) zero h = omega arith
kept_known (v ∷ pool) (suc k) h = let r : k < length pool = kept_known pool k h in omega (arith, r)

pub usable_known : (pool : List Value) (l : Live) → IsUsable pool l → IsKnown (length pool) l
usable_known pool live.False h = tt
usable_known pool live.True h = tt
usable_known pool (live.Number z) h = tt
usable_known pool (live.Kept k) h = kept_known pool k h

pub usable_later : (us vs : List Value) (l : Live) → IsGrown us vs → IsUsable us l → IsUsable vs l
usable_later us vs live.False g h = tt
usable_later us vs live.True g h = tt
usable_later us vs (live.Number z) g h = tt
usable_later us vs (live.Kept k) g h = subst (λ v. IsTrue (is_settled v)) (sym (value_stays us vs k g (kept_known us k h))) h

pub all_usable_known : (pool : List Value) (ls : List Live) → AreUsable pool ls → AreKnown (length pool) ls
all_usable_known pool [] h = tt
all_usable_known pool (l ∷ ls) h = (usable_known pool l h.0, all_usable_known pool ls h.1)

pub all_usable_later : (us vs : List Value) (ls : List Live) → IsGrown us vs → AreUsable us ls → AreUsable vs ls
all_usable_later us vs [] g h = tt
all_usable_later us vs (l ∷ ls) g h = (usable_later us vs l g h.0, all_usable_later us vs ls g h.1)

pub known_on : (earlier later : List Value) (args : List ℕ) (env env2 : List Live) → IsGrown earlier later → env2 ≡ env → AreKnown (length earlier) (bindings args env) → AreKnown (length later) (bindings args env2)
known_on earlier later args env env2 g e h =
    subst (λ l. AreKnown (length later) (bindings args l)) (sym e) (known_more (length earlier) (length later) (bindings args env) (grown_longer earlier later g) h)

-- arguments in the pool are known
pub known_args : (n : ℕ) (args : List ℕ) → All (λ k. k < n) args → AreKnown n (bindings args [])
known_args n [] h = tt
known_args n (k ∷ args) h = (h 0 0 (omega arith), known_args n args (λ i d l. h (suc i) d (omega arith)))

-- bindings with one more, and with those of a pattern
pub bindings_more : (args : List ℕ) (env more : List Live) → bindings args (env ++ more) ≡ bindings args env ++ more
bindings_more args env more = sym (append_assoc (map live.Kept args) env more)

pub bound_more : (pool : List Value) (args : List ℕ) (env more : List Live) → bound_in pool args (env ++ more) ≡ bound_in pool args env ++ map (value_in pool) more
bound_more pool args env more = ap (map (value_in pool)) (bindings_more args env more) ∙ map-append (value_in pool) (bindings args env) more

known_append : (n : ℕ) (xs ys : List Live) → AreKnown n xs → AreKnown n ys → AreKnown n (xs ++ ys)
known_append n [] ys h k = k
known_append n (x ∷ xs) ys h k = (h.0, known_append n xs ys h.1 k)

pub known_with : (earlier later : List Value) (args : List ℕ) (env more env2 : List Live) → IsGrown earlier later → env2 ≡ env ++ more → AreKnown (length earlier) (bindings args env) → AreKnown (length later) more → AreKnown (length later) (bindings args env2)
known_with earlier later args env more env2 g e h k =
    subst (AreKnown (length later)) (sym (ap (bindings args) e ∙ bindings_more args env more)) (known_append (length later) (bindings args env) more (known_more (length earlier) (length later) (bindings args env) (grown_longer earlier later g) h) k)
