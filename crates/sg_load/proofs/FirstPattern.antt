-- The patterns of lexeme phyla stand in the order of the text, and the first fault of a row of them before all others.
use Rattle.std.proofs.Common.{◌≡◌, ℕ, zero, suc, ◌+◌, ◌<◌, ◌≤◌, List, [], ◌∷◌, ◌++◌, map, Some, slice_get, inl, inr, refl, sym, ap, ◌∙◌, subst, arith}
use Rattle.std.proofs.lemmas.Bool.{cases_lt}
use Rattle.std.proofs.lemmas.List.{map-append}
use Rattle.std.specs.Prelude.{flat_map}
use Rattle.sg_kinds.specs.Values.{Bytes}
use Rattle.sg_kinds.specs.declared.fault.Position.{Position}
use Rattle.sg_kinds.specs.declared.fault.SpecFault.TheVariants.{PatternForm, EmptyLexeme}
use Rattle.sg_ast.specs.declared.name.Name.{Name}
use Rattle.sg_ast.specs.declared.name.Quoted.{Quoted}
use Rattle.sg_ast.specs.Declarations.{Decl, LexemeOf}
use Rattle.sg_ast.specs.Parts.{lexeme_text}
use Rattle.sg_ast.specs.Rising.{places_of, RiseFrom, SomeOf, nothing, passed, taken}
use Rattle.sg_ast.proofs.RisingLaws.{some_of_each}
use Rattle.sg_schemes.proofs.FirstInText.{Among, rest_rises, front_rises, behind_rises}
use Rattle.sg_load.specs.Rows.{IsFirst}
use Rattle.sg_load.specs.Patterns.{HasNoForm, IsFormFault, MatchesEmpty, IsEmptyFault, IsPatternForm, IsEmptyLexeme}
use Rattle.sg_load.specs.PatternPlaces.{pattern_places, IsFirstPattern}

-- patterns
decl_in : (d : Decl) → SomeOf (map (λ (s : Quoted). s.place) (lexeme_text d)) (places_of d)
decl_in (LexemeOf n s) = passed (taken nothing)
decl_in d = nothing

joined : (ds : List Decl) → pattern_places ds ≡ flat_map (λ d. map (λ (s : Quoted). s.place) (lexeme_text d)) ds
joined [] = refl
joined (d ∷ ds) = map-append (λ (s : Quoted). s.place) (lexeme_text d) (flat_map lexeme_text ds) ∙ ap (λ l. map (λ (s : Quoted). s.place) (lexeme_text d) ++ l) (joined ds)

pub patterns_ordered : (ds : List Decl) → SomeOf (pattern_places ds) (flat_map places_of ds)
patterns_ordered ds = subst (λ (l : List Position). SomeOf l (flat_map places_of ds)) (sym (joined ds)) (some_of_each (λ d. map (λ (s : Quoted). s.place) (lexeme_text d)) places_of decl_in ds)

-- a place of a later declaration is later
least_place : (k j : ℕ) (ds : List Decl) (d : Decl) (q : Position) → RiseFrom k (flat_map places_of ds) → slice_get ds j ≡ Some d → Among q (places_of d) → k ≤ q.token
least_place k j [] d q h there is = absurd (cc)
least_place k zero (x ∷ ds) d q h there is =
    let same : x ≡ d = let both : Some x ≡ Some d = there in cc in
    front_rises k q (places_of x) (flat_map places_of ds) h (subst (λ (y : Decl). Among q (places_of y)) (sym same) is)
least_place k (suc j) (x ∷ ds) d q h there is = least_place k j ds d q (rest_rises k (places_of x) (flat_map places_of ds) h) there is

later_place : (k i j : ℕ) (ds : List Decl) (c d : Decl) (p q : Position) → RiseFrom k (flat_map places_of ds) → i < j → slice_get ds i ≡ Some c → slice_get ds j ≡ Some d → Among p (places_of c) → Among q (places_of d) → p.token ≤ q.token
later_place k i j [] c d p q h less here there at is = absurd (cc)
later_place k i zero (x ∷ ds) c d p q h less here there at is = absurd (omega (arith, less))
later_place k zero (suc j) (x ∷ ds) c d p q h less here there at is =
    let same : x ≡ c = let both : Some x ≡ Some c = here in cc in
    let rises = behind_rises k p (places_of x) (flat_map places_of ds) h (subst (λ (y : Decl). Among p (places_of y)) (sym same) at) in
    let low = least_place (p.token + 1) j ds d q rises there is in
    omega (arith, low)
later_place k (suc i) (suc j) (x ∷ ds) c d p q h less here there at is =
    later_place k i j ds c d p q (rest_rises k (places_of x) (flat_map places_of ds) h) (omega (arith, less)) here there at is

-- the first pattern at fault
first_pattern : (IsAtFault : Decl → Type 0) (ds : List Decl) → RiseFrom 0 (flat_map places_of ds) → (m : Name) (r : Quoted) → IsFirst IsAtFault ds (LexemeOf m r) → IsFirstPattern IsAtFault ds r.place
first_pattern IsAtFault ds rise m r first k n s there is = elim (cases_lt k first.place) [
  | inl less ↦ absurd (first.before k (LexemeOf n s) less there is)
  | inr ge ↦ elim (cases_lt first.place k) [
    | inl less ↦ later_place 0 first.place k ds (LexemeOf m r) (LexemeOf n s) r.place s.place rise less first.there there (inr (inl refl)) (inr (inl refl))
    | inr le ↦
        let at : first.place ≡ k = omega (arith, ge, le) in
        let both : Some (LexemeOf m r) ≡ Some (LexemeOf n s) = sym first.there ∙ ap (slice_get ds) at ∙ there in
        let same : r ≡ s = cc in
        omega (arith, ap (λ (x : Quoted). x.place.token) same)
  ]
]

form_first : (ds : List Decl) → RiseFrom 0 (flat_map places_of ds) → (p : Position) (n : Bytes) (d : Decl) → IsFirst HasNoForm ds d → IsFormFault (PatternForm p n) d → IsFirstPattern HasNoForm ds p
form_first ds rise p n (LexemeOf m r) first is =
    let here : r.place ≡ p = cc is in
    subst (λ (q : Position). IsFirstPattern HasNoForm ds q) here (first_pattern HasNoForm ds rise m r first)
form_first ds rise p n d first is = absurd is

pub pattern_form_first : (ds : List Decl) → RiseFrom 0 (flat_map places_of ds) → (p : Position) (n : Bytes) → IsPatternForm ds (PatternForm p n) → IsFirstPattern HasNoForm ds p
pattern_form_first ds rise p n h = form_first ds rise p n h.0 h.1 h.2

empty_first : (ds : List Decl) → RiseFrom 0 (flat_map places_of ds) → (p : Position) (n : Bytes) (d : Decl) → IsFirst MatchesEmpty ds d → IsEmptyFault (EmptyLexeme p n) d → IsFirstPattern MatchesEmpty ds p
empty_first ds rise p n (LexemeOf m r) first is =
    let here : r.place ≡ p = cc is in
    subst (λ (q : Position). IsFirstPattern MatchesEmpty ds q) here (first_pattern MatchesEmpty ds rise m r first)
empty_first ds rise p n d first is = absurd is

pub empty_lexeme_first : (ds : List Decl) → RiseFrom 0 (flat_map places_of ds) → (p : Position) (n : Bytes) → IsEmptyLexeme ds (EmptyLexeme p n) → IsFirstPattern MatchesEmpty ds p
empty_lexeme_first ds rise p n h = empty_first ds rise p n h.0 h.1 h.2
