-- Texts without repeats, and the table of their first bytes.
use Rattle.std.proofs.Common.{◌≡◌, ◌≢◌, ℕ, suc, ◌+◌, ◌<◌, Bool, true, false, ◌||◌, List, [], ◌∷◌, ◌++◌, length, get_or, map, refl, sym, ap, ◌∙◌, arith}
use Rattle.std.specs.Prelude.{bytes_eq, not, cond, nat_eq}
use Rattle.std.specs.List.{list_any}
use Rattle.std.proofs.lemmas.Bool.{not-true, not-false, eqb-true, eq-eqb}
use Rattle.std.proofs.lemmas.List.{get_or-set_other, get_or-set_same, append-nil}
use Rattle.std.proofs.Math.ListN.{set}
use Rattle.sg_kinds.specs.Values.{Bytes}
use Rattle.sg_patterns.specs.Lexemes.{with_text, begins_with, places_of, IsTable}

pub any-map : {X : Type 0} (f : X → Bytes) (p : Bytes → Bool) (xs : List X) → list_any p (map f xs) ≡ list_any (λ x. p (f x)) xs
any-map f p [] = refl
any-map f p (x ∷ xs) = ap (λ b. p (f x) || b) (any-map f p xs)

module _ {X : Type 0} (f : X → Bytes) (keys : List X) (texts : List Bytes) (s : Bytes) (same : map f keys ≡ texts) where
  known : list_any (bytes_eq s) texts ≡ list_any (λ x. bytes_eq s (f x)) keys
  known = ap (list_any (bytes_eq s)) (sym same) ∙ any-map f (bytes_eq s) keys

  pub text-added : (new : Bool) → new ≡ not (list_any (λ x. bytes_eq s (f x)) keys) → new ≡ true → with_text texts s ≡ texts ++ s ∷ []
  text-added new is up =
      let absent : list_any (bytes_eq s) texts ≡ false = known ∙ not-true _ (sym is ∙ up) in
      ap (λ b. cond b texts (texts ++ s ∷ [])) absent

  pub text-known : (new : Bool) → new ≡ not (list_any (λ x. bytes_eq s (f x)) keys) → new ≡ false → with_text texts s ≡ texts
  text-known new is down =
      let present : list_any (bytes_eq s) texts ≡ true = known ∙ not-false _ (sym is ∙ down) in
      ap (λ b. cond b texts (texts ++ s ∷ [])) present

-- one more text
pub places-more : (texts : List Bytes) (k : ℕ) (s : Bytes) (b : ℕ) → places_of k (texts ++ s ∷ []) b ≡ places_of k texts b ++ cond (begins_with s b) ((k + length texts) ∷ []) []
places-more [] k s b = let e : k + 0 ≡ k = omega arith in ap (λ j. cond (begins_with s b) (j ∷ []) []) (sym e)
places-more (t ∷ texts) k s b =
    let more = places-more texts (suc k) s b in
    let e : suc k + length texts ≡ k + suc (length texts) = omega arith in
    elim (begins_with t b) as (λ v. cond v (k ∷ places_of (suc k) (texts ++ s ∷ []) b) (places_of (suc k) (texts ++ s ∷ []) b) ≡ cond v (k ∷ places_of (suc k) texts b) (places_of (suc k) texts b) ++ cond (begins_with s b) ((k + suc (length texts)) ∷ []) []) [
      | true ↦ ap (λ ps. k ∷ ps) (more ∙ ap (λ j. places_of (suc k) texts b ++ cond (begins_with s b) (j ∷ []) []) e)
      | false ↦ more ∙ ap (λ j. places_of (suc k) texts b ++ cond (begins_with s b) (j ∷ []) []) e
    ]

-- the place of a text without bytes is in no row
pub table-passed : (texts : List Bytes) (table : List (List ℕ)) → IsTable texts table → IsTable (texts ++ [] ∷ []) table
table-passed texts table is b less = is b less ∙ sym (places-more texts 0 [] b ∙ append-nil (places_of 0 texts b))

-- the place of a text is put behind the row of its first byte
pub table-more : (texts : List Bytes) (table : List (List ℕ)) (c : ℕ) (s : Bytes) (row : List ℕ) → c < 256 → length table ≡ 256 → row ≡ get_or table c [] ++ length texts ∷ [] → IsTable texts table → IsTable (texts ++ (c ∷ s) ∷ []) (set table c row)
table-more texts table c s row small len row_is is b less = here (nat_eq c b) refl
  where
    zero-more : 0 + length texts ≡ length texts
    zero-more = omega arith

    here : (t : Bool) → nat_eq c b ≡ t → get_or (set table c row) b [] ≡ places_of 0 (texts ++ (c ∷ s) ∷ []) b
    here true e =
        let same : c ≡ b = eqb-true c b e in
        let written : get_or (set table c row) c [] ≡ row = get_or-set_same table c row [] (omega arith) in
        let old : get_or table b [] ≡ places_of 0 texts b = is b less in
        ap (λ j. get_or (set table c row) j []) (sym same) ∙ written ∙ row_is ∙ ap (λ j. get_or table j [] ++ length texts ∷ []) same ∙ ap (λ ps. ps ++ length texts ∷ []) old
        ∙ sym (places-more texts 0 (c ∷ s) b ∙ (λ i. places_of 0 texts b ++ cond (e i) (zero-more i ∷ []) []))
    here false e =
        let ne : b ≢ c = (λ q. let f : false ≡ true = sym e ∙ eq-eqb c b (sym q) in cc) in
        get_or-set_other table c b row [] ne ∙ is b less ∙ sym (places-more texts 0 (c ∷ s) b ∙ ap (λ v. places_of 0 texts b ++ cond v ((0 + length texts) ∷ []) []) e ∙ append-nil (places_of 0 texts b))

pub table-put : (texts : List Bytes) (table : List (List ℕ)) (s : Bytes) (row : List ℕ) → 0 < length s → get_or s 0 0 < 256 → length table ≡ 256 → row ≡ get_or table (get_or s 0 0) [] ++ length texts ∷ [] → IsTable texts table → IsTable (texts ++ s ∷ []) (set table (get_or s 0 0) row)
table-put texts table [] row some small len row_is is = absurd (omega arith)
table-put texts table (c ∷ s) row some small len row_is is = table-more texts table c s row small len row_is is

pub none-put : (texts : List Bytes) (table : List (List ℕ)) (s : Bytes) → length s < 1 → IsTable texts table → IsTable (texts ++ s ∷ []) table
none-put texts table [] none is = table-passed texts table is
none-put texts table (c ∷ s) none is = absurd (omega arith)
