-- The names and numbers of the record's nonterminals.
use Rattle.std.proofs.Common.{◌≡◌, ◌≢◌, ℕ, zero, suc, ◌+◌, ◌<◌, ◌≤◌, ◌↔◌, Bool, true, false, cond, not, ◌||◌, if◌then◌else◌, List, [], ◌∷◌, ◌++◌, map, flat_map, fold, take, length, Option, Some, None, slice_get, nat_eq, bytes_eq, refl, sym, ap, subst, ◌∙◌, arith, append_assoc, append-nil, ◌⊎◌, inl, inr}
use Rattle.std.specs.Prelude.{is_some, unwrap_or}
use Rattle.std.specs.List.{AllByRecursion as Each, All, Contains, list_any, position, position_or_len}
use Rattle.std.proofs.lemmas.Bool.{cases_lt}
use Rattle.std.proofs.lemmas.List.{length-append}
use Rattle.std.proofs.lemmas.List.Elements.{All-from_recursion}
use Rattle.sg_kinds.specs.Values.{Bytes}
use Rattle.sg_kinds.specs.Sound.{IsNamed, IsNumbered}
use Rattle.sg_kinds.specs.declared.spec.Phylum.{Phylum}
use Rattle.sg_kinds.specs.declared.spec.Production.{Production}
use Rattle.sg_kinds.specs.declared.spec.Spec.{Spec}
use Rattle.sg_kinds.proofs.Elementary.{some_there, eq_is, eq_itself, bytes_itself}
use Rattle.sg_ast.specs.declared.name.Name.{Name}
use Rattle.sg_ast.specs.Declarations.{Decl, Right, Productions}
use Rattle.sg_ast.specs.Written.{IsWritten}
use Rattle.sg_names.specs.declared.heads.Head.{Head}
use Rattle.sg_names.specs.declared.table.Table.{Table}
use Rattle.sg_names.specs.Drafted.{HasTable}
use Rattle.sg_names.specs.Heads.{is_head, head_of, with_head}
use Rattle.sg_names.specs.Lookups.{phylum_named, nonterminal_named}
use Rattle.sg_names.specs.Names.{map_from, nonterminal_defined, nonterminals_in}
use Rattle.sg_names.specs.Shapes.{result_count}
use Rattle.sg_names.proofs.HeadLaws.{some_place}
use Rattle.sg_remote.specs.Longer.{names_of}
use Rattle.sg_typing.specs.Bodies.{expr_count}
use Rattle.sg_record.specs.Premises.{AreApart}
use Rattle.sg_record.specs.Record.{nonterminal_in, production, productions_in}
use Rattle.sg_record.proofs.Known.{nonterminal_in_heads, place_is}
use Rattle.sg_record.proofs.Lists.{any_left, any_right, each_weaker}
use Rattle.sg_record.proofs.Nonterminals.{IsOf, all_defined, productions_of, same_name, is_left, heads_behind}

-- no name of a phylum is that of a nonterminal
phylum_apart : (n : Bytes) (phyla : List Phylum) → list_any (λ (x : Phylum). bytes_eq n x.name) phyla ≡ false → Each (λ (x : Phylum). x.name ≢ n) phyla
phylum_apart n [] none = tt
phylum_apart n (x ∷ phyla) none = by (bytes_eq n x.name) refl none (phylum_apart n phyla)
  where
    by : (b : Bool) → bytes_eq n x.name ≡ b → (b || list_any (λ (y : Phylum). bytes_eq n y.name) phyla) ≡ false
        → (list_any (λ (y : Phylum). bytes_eq n y.name) phyla ≡ false → Each (λ (y : Phylum). y.name ≢ n) phyla) → Each (λ (y : Phylum). y.name ≢ n) (x ∷ phyla)
    by true e f rest = absurd (cc f)
    by false e f rest = ((λ same. absurd (cc (sym (bytes_itself n) ∙ ap (bytes_eq n) (sym same) ∙ e))), rest f)

no_phylum : (t : Table) (n : Bytes) (k : ℕ) → AreApart t → nonterminal_named t n ≡ Some k → list_any (λ (x : Phylum). bytes_eq n x.name) t.phyla ≡ false
no_phylum t n k apart named = by (phylum_named t n) refl (some_place (λ (x : Phylum). bytes_eq n x.name) t.phyla)
  where
    by : (o : Option ℕ) → phylum_named t n ≡ o → is_some (phylum_named t n) ≡ list_any (λ (x : Phylum). bytes_eq n x.name) t.phyla → list_any (λ (x : Phylum). bytes_eq n x.name) t.phyla ≡ false
    by None e f = sym f ∙ ap is_some e
    by (Some p) e f = absurd (apart n k p named e)

some_same : {A : Type 0} (x y : A) → Some x ≡ Some y → x ≡ y
some_same x y h = cc h

module _ (ds : List Decl) (spec : Spec) (kept : HasTable (names_of ds) spec) (made : spec.productions ≡ productions_in (names_of ds) 0 ds) (none : result_count (names_of ds) ≡ None) where
  all_of : Each (IsOf (names_of ds)) spec.productions
  all_of = subst (Each (IsOf (names_of ds))) (sym made) (productions_of (names_of ds) none 0 ds (all_defined ds))

  same_iff : (r s : Production) → IsOf (names_of ds) r → IsOf (names_of ds) s → (s.name ≡ r.name) ↔ (s.left ≡ r.left)
  same_iff r s is its = (
    (λ e. some_same s.left r.left (sym its.left ∙ ap (nonterminal_named (names_of ds)) e ∙ is.left)),
    (λ e. same_name (names_of ds) s.name r.name r.left (its.left ∙ ap Some e) is.left),
  )

  pub all_named : AreApart (names_of ds) → All (IsNamed spec) spec.productions
  all_named apart =
      All-from_recursion (IsNamed spec) spec.productions
      (each_weaker (IsOf (names_of ds)) (IsNamed spec) spec.productions
      (λ r is. (
        All-from_recursion (λ (x : Phylum). x.name ≢ r.name) spec.phyla
            (subst (Each (λ (x : Phylum). x.name ≢ r.name)) (sym kept.phyla) (phylum_apart r.name (names_of ds).phyla (no_phylum (names_of ds) r.name r.left apart is.left))),
        All-from_recursion (λ (s : Production). (s.name ≡ r.name) ↔ (s.left ≡ r.left)) spec.productions
            (each_weaker (IsOf (names_of ds)) (λ (s : Production). (s.name ≡ r.name) ↔ (s.left ≡ r.left)) spec.productions (λ s its. same_iff r s is its) all_of),
      ))
      all_of)

-- a place that is there stays the place where more stands behind it
place_kept : {A : Type 0} (p : A → Bool) (xs ys : List A) → list_any p xs ≡ true → position_or_len p (xs ++ ys) ≡ position_or_len p xs
place_kept p [] ys h = absurd (cc h)
place_kept p (x ∷ xs) ys h = by (p x) h (place_kept p xs ys)
  where
    by : (b : Bool) → (b || list_any p xs) ≡ true → (list_any p xs ≡ true → position_or_len p (xs ++ ys) ≡ position_or_len p xs) → cond (not b) (1 + position_or_len p (xs ++ ys)) 0 ≡ cond (not b) (1 + position_or_len p xs) 0
    by true e rest = refl
    by false e rest = ap (λ n. 1 + n) (rest e)

place_within : {A : Type 0} (p : A → Bool) (xs : List A) → position_or_len p xs ≤ length xs
place_within p [] = omega arith
place_within p (x ∷ xs) = by (p x) (place_within p xs)
  where
    by : (b : Bool) → position_or_len p xs ≤ length xs → cond (not b) (1 + position_or_len p xs) 0 ≤ suc (length xs)
    by true h = omega arith
    by false h = omega (arith, h)

place_last : {A : Type 0} (p : A → Bool) (xs : List A) (x : A) → list_any p xs ≡ false → p x ≡ true → position_or_len p (xs ++ x ∷ []) ≡ length xs
place_last p [] x h e = ap (λ b. cond (not b) (1 + position_or_len p []) 0) e
place_last p (y ∷ xs) x h e = by (p y) h (λ f. place_last p xs x f e)
  where
    by : (b : Bool) → (b || list_any p xs) ≡ false → (list_any p xs ≡ false → position_or_len p (xs ++ x ∷ []) ≡ length xs) → cond (not b) (1 + position_or_len p (xs ++ x ∷ [])) 0 ≡ suc (length xs)
    by true f rest = absurd (cc f)
    by false f rest = let r : position_or_len p (xs ++ x ∷ []) ≡ length xs = rest f in omega (arith, r)

-- first definitions are only put behind others
abbrev IsBehind : List Head → List Head → Type 0
IsBehind H F = (more : List Head) × (F ≡ H ++ more)

head_behind : (H : List Head) (h : Head) → IsBehind H (with_head H h)
head_behind H h = by (list_any (is_head h.name) H)
  where
    by : (b : Bool) → IsBehind H (if b then H else H ++ h ∷ [])
    by true = ([], sym (append-nil H))
    by false = (h ∷ [], refl)

heads_behind_all : (H hs : List Head) → IsBehind H (fold with_head H hs)
heads_behind_all H [] = ([], sym (append-nil H))
heads_behind_all H (h ∷ hs) =
    let a = head_behind H h in
    let b = heads_behind_all (with_head H h) hs in
    (a.0 ++ b.0, b.1 ∙ ap (λ l. l ++ b.0) a.1 ∙ append_assoc H a.0 b.0)

-- a definition: its number is at most the count of those before it, and a number that is new is its own
record IsAdded (H F : List Head) (n : Name) : Type 0 where
  low : position_or_len (is_head n.text) F ≤ length H
  seen : list_any (is_head n.text) F ≡ true
  new : (k : ℕ) → k < length F → length H ≤ k → k ≡ position_or_len (is_head n.text) F

added : (H : List Head) (n : Name) → IsAdded H (with_head H (head_of n false)) n
added H n = by (list_any (is_head n.text) H) refl
  where
    by : (b : Bool) → list_any (is_head n.text) H ≡ b → IsAdded H (if b then H else H ++ head_of n false ∷ []) n
    by true e = record { low = place_within (is_head n.text) H; seen = e; new = λ k low high. absurd (omega (arith, low, high)) }
    by false e =
        let last : position_or_len (is_head n.text) (H ++ head_of n false ∷ []) ≡ length H = place_last (is_head n.text) H (head_of n false) e (bytes_itself n.text) in
        let count : length (H ++ head_of n false ∷ []) ≡ length H + 1 = length-append H (head_of n false ∷ []) in
        record {
          low = omega (arith, last);
          seen = any_right (is_head n.text) H (head_of n false ∷ []) (ap (λ b. b || false) (bytes_itself n.text));
          new = λ k low high. omega (arith, last, count, low, high);
        }

-- productions of which each has a left side whose lesser numbers stand before it
Numbered : List Production → List Production → Type 0
Numbered seen [] = Unit {0}
Numbered seen (r ∷ rs) = ((k : ℕ) → k < r.left → list_any (is_left k) seen ≡ true) × Numbered (seen ++ r ∷ []) rs

numbered_append : (seen xs ys : List Production) → Numbered seen xs → Numbered (seen ++ xs) ys → Numbered seen (xs ++ ys)
unfolding Numbered
numbered_append seen [] ys h k = subst (λ l. Numbered l ys) (append-nil seen) k
numbered_append seen (x ∷ xs) ys h k = (h.0, numbered_append (seen ++ x ∷ []) xs ys h.1 (subst (λ l. Numbered l ys) (sym (append_assoc seen (x ∷ []) xs)) k))

numbered_at : (seen rs : List Production) (n : ℕ) (r : Production) → Numbered seen rs → slice_get rs n ≡ Some r → (k : ℕ) → k < r.left → list_any (is_left k) (seen ++ take n rs) ≡ true
unfolding Numbered
numbered_at seen [] n r h at k low = absurd (cc at)
numbered_at seen (x ∷ rs) zero r h at k low =
    let same : x ≡ r = cc at in
    any_left (is_left k) seen [] (h.0 k (subst (λ (y : Production). k < y.left) (sym same) low))
numbered_at seen (x ∷ rs) (suc n) r h at k low = subst (λ l. list_any (is_left k) l ≡ true) (append_assoc seen (x ∷ []) (take n rs)) (numbered_at (seen ++ x ∷ []) rs n r h.1 at k low)

left_contained : (k : ℕ) (rs : List Production) → list_any (is_left k) rs ≡ true → Contains (map (λ (r : Production). r.left) rs) k
left_contained k [] h = absurd (cc h)
left_contained k (r ∷ rs) h = by (nat_eq r.left k) refl h (left_contained k rs)
  where
    by : (b : Bool) → nat_eq r.left k ≡ b → (b || list_any (is_left k) rs) ≡ true → (list_any (is_left k) rs ≡ true → Contains (map (λ (s : Production). s.left) rs) k) → Contains (map (λ (s : Production). s.left) (r ∷ rs)) k
    by true e f rest = (0, omega arith, eq_is r.left k e)
    by false e f rest = let c = rest f in (suc c.0, (let low : c.0 < length (map (λ (s : Production). s.left) rs) = c.1 in omega (arith, low)), c.2)

module _ (t : Table) (F : List Head) (numbers : (n : Bytes) → list_any (is_head n) F ≡ true → nonterminal_in t n ≡ position_or_len (is_head n) F) where
  rights_numbered : (H : List Head) (m : Name) (seen : List Production) (j : ℕ) (rights : List Right) → nonterminal_in t m.text ≤ length H → ((k : ℕ) → k < length H → list_any (is_left k) seen ≡ true) → Numbered seen (map_from (production t m) j rights)
  unfolding Numbered
  rights_numbered H m seen j [] low before = tt
  rights_numbered H m seen j (r ∷ rights) low before = (
    (λ k less. before k (omega (arith, low, less))),
    rights_numbered H m (seen ++ production t m j r ∷ []) (suc j) rights low (λ k less. any_left (is_left k) seen (production t m j r ∷ []) (before k less)),
  )

  first_left : (m : Name) (j : ℕ) (rights : List Right) → (rights ≡ [] → ⊥) → list_any (is_left (nonterminal_in t m.text)) (map_from (production t m) j rights) ≡ true
  first_left m j [] some = absurd (some refl)
  first_left m j (r ∷ rights) some = ap (λ b. b || list_any (is_left (nonterminal_in t m.text)) (map_from (production t m) (suc j) rights)) (eq_itself (nonterminal_in t m.text))

  numbered_all : (H : List Head) (seen : List Production) (j : ℕ) (ds : List Decl) → heads_behind H ds ≡ F → Each IsWritten ds → ((k : ℕ) → k < length H → list_any (is_left k) seen ≡ true) → Numbered seen (productions_in t j ds)
  unfolding Numbered
  numbered_all H seen j [] last written before = tt
  numbered_all H seen j (Productions m rights ∷ ds) last written before =
      let G = with_head H (head_of m false) in
      let is = added H m in
      let behind = heads_behind_all G (flat_map nonterminal_defined ds) in
      let all : F ≡ G ++ behind.0 = sym last ∙ behind.1 in
      let there : list_any (is_head m.text) F ≡ true = ap (list_any (is_head m.text)) all ∙ any_left (is_head m.text) G behind.0 is.seen in
      let number : nonterminal_in t m.text ≡ position_or_len (is_head m.text) G = numbers m.text there ∙ ap (position_or_len (is_head m.text)) all ∙ place_kept (is_head m.text) G behind.0 is.seen in
      let low : nonterminal_in t m.text ≤ length H = let b = is.low in omega (arith, number, b) in
      numbered_append seen (map_from (production t m) j rights) (productions_in t (j + length rights) ds)
      (rights_numbered H m seen j rights low before)
      (numbered_all G (seen ++ map_from (production t m) j rights) (j + length rights) ds last written.1 (λ k less. by G is number k less (cases_lt k (length H))))
    where
      by : (G : List Head) → IsAdded H G m → nonterminal_in t m.text ≡ position_or_len (is_head m.text) G → (k : ℕ) → k < length G → (k < length H) ⊎ (length H ≤ k) → list_any (is_left k) (seen ++ map_from (production t m) j rights) ≡ true
      by G is number k less (inl old) = any_left (is_left k) seen (map_from (production t m) j rights) (before k old)
      by G is number k less (inr new) =
          any_right (is_left k) seen (map_from (production t m) j rights)
          (subst (λ i. list_any (is_left i) (map_from (production t m) j rights) ≡ true) (number ∙ sym (is.new k less new)) (first_left m j rights written.0.0))
  numbered_all H seen j (d ∷ ds) last written before = numbered_all H seen (j + expr_count d) ds last written.1 before

numbers_there : (ds : List Decl) (n : Bytes) → list_any (is_head n) (nonterminals_in ds) ≡ true → nonterminal_in (names_of ds) n ≡ position_or_len (is_head n) (nonterminals_in ds)
numbers_there ds n h =
    let k = some_there (position (is_head n) (nonterminals_in ds)) (some_place (is_head n) (nonterminals_in ds) ∙ h) in
    ap (λ o. unwrap_or o 0) (nonterminal_in_heads ds n ∙ k.1) ∙ sym (place_is (is_head n) (nonterminals_in ds) k.0 k.1)

-- nonterminals are numbered by their first production
pub all_numbered : (ds : List Decl) (productions : List Production) → productions ≡ productions_in (names_of ds) 0 ds → Each IsWritten ds → IsNumbered productions
unfolding Numbered
all_numbered ds productions made written n r at k low =
    let all = numbered_all (names_of ds) (nonterminals_in ds) (numbers_there ds) [] [] 0 ds refl written (λ i less. absurd (omega (arith, less))) in
    let there = numbered_at [] (productions_in (names_of ds) 0 ds) n r all (ap (λ l. slice_get l n) (sym made) ∙ at) k low in
    left_contained k (take n productions) (ap (λ l. list_any (is_left k) (take n l)) made ∙ there)
