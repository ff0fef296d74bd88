-- One declaration more, and what the faults of patterns follow from.
use Rattle.std.proofs.Common.{◌≡◌, ◌↔◌, ℕ, ◌+◌, ◌<◌, ◌≤◌, Bool, true, false, List, [], ◌∷◌, ◌++◌, length, take, get_or, flat_map, Option, Some, None, refl, sym, ap, subst, arith, ◌∙◌, inl, inr}
use Rattle.std.proofs.lemmas.Bool.Decides.{nat_tests}
use Rattle.std.specs.Prelude.{nat_lt, option_map, slice_get, IsTrue}
use Rattle.std.proofs.lemmas.List.{take_more, append-nil, length-map}
use Rattle.std.proofs.lemmas.List.Elements.{All-append, All-cons, All-nil}
use Rattle.std.proofs.lemmas.Grind.{flat_map-append}
use Rattle.std.proofs.lemmas.Option.{slice_get_within, get_or_from_slice_get, slice_get-map, slice_get_read}
use Rattle.sg_kinds.specs.Lexemes.{Lexeme}
use Rattle.sg_kinds.specs.Matches.{Matches}
use Rattle.sg_kinds.specs.declared.fault.SpecFault.{SpecFault}
use Rattle.sg_ast.specs.declared.name.Name.{Name}
use Rattle.sg_ast.specs.declared.name.Quoted.{Quoted}
use Rattle.sg_ast.specs.Declarations.{Decl, Root, Listed, Optional, Operators, LexemeOf, Attributes, Equations, Schemes, Function, Transform, Productions, Entry, Precedence}
use Rattle.sg_ast.specs.declared.decl.Decl as written
use Rattle.sg_ast.specs.View.{tree_of, trees_of}
use Rattle.sg_ast.specs.Parts.{lexeme_text}
use Rattle.sg_patterns.specs.Spelling.{IsPattern, deepest}
use Rattle.sg_load.specs.Patterns.{HasNoForm, IsFormFault, MatchesEmpty, IsEmptyFault, IsLexemeFault, IsOther, ArePatterns}
use Rattle.sg_load.specs.PatternsSoFar.{IsPatternAdded, first_empty, NoneBefore, IsFirstEmpty, ArePatternsOf}

-- what declares no lexeme phylum has no text and no fault
no_text : (d : Decl) → IsOther d → lexeme_text d ≡ []
no_text (Root n) o = refl
no_text (Listed n) o = refl
no_text (Optional l n) o = refl
no_text (Operators n alts) o = refl
no_text (LexemeOf n s) o = absurd o
no_text (Attributes n attrs) o = refl
no_text (Equations n op locals es) o = refl
no_text (Schemes n op view ss) o = refl
no_text (Function t n ps e) o = refl
no_text (Transform n s q e) o = refl
no_text (Productions n rights) o = refl
no_text (Entry p n a) o = refl
no_text (Precedence g ls p) o = refl

no_fault : (d : Decl) → IsOther d → (HasNoForm d → ⊥) × (MatchesEmpty d → ⊥)
no_fault (Root n) o = (λ h. h, λ h. h)
no_fault (Listed n) o = (λ h. h, λ h. h)
no_fault (Optional l n) o = (λ h. h, λ h. h)
no_fault (Operators n alts) o = (λ h. h, λ h. h)
no_fault (LexemeOf n s) o = absurd o
no_fault (Attributes n attrs) o = (λ h. h, λ h. h)
no_fault (Equations n op locals es) o = (λ h. h, λ h. h)
no_fault (Schemes n op view ss) o = (λ h. h, λ h. h)
no_fault (Function t n ps e) o = (λ h. h, λ h. h)
no_fault (Transform n s q e) o = (λ h. h, λ h. h)
no_fault (Productions n rights) o = (λ h. h, λ h. h)
no_fault (Entry p n a) o = (λ h. h, λ h. h)
no_fault (Precedence g ls p) o = (λ h. h, λ h. h)

-- the first n + 1 elements
one_more : (ds : List Decl) (n : ℕ) (d : Decl) → slice_get ds n ≡ Some d → take (n + 1) ds ≡ take n ds ++ d ∷ []
one_more ds n d there = take_more ds n d (slice_get_within ds n d there) ∙ ap (λ x. take n ds ++ x ∷ []) (get_or_from_slice_get ds n d d there)

texts_more : (ds : List Decl) (n : ℕ) (d : Decl) → slice_get ds n ≡ Some d → flat_map lexeme_text (take (n + 1) ds) ≡ flat_map lexeme_text (take n ds) ++ lexeme_text d
texts_more ds n d there = ap (flat_map lexeme_text) (one_more ds n d there) ∙ flat_map-append lexeme_text (take n ds) (d ∷ []) ∙ ap (λ t. flat_map lexeme_text (take n ds) ++ t) (append-nil (lexeme_text d))

none_more : (P : Decl → Type 0) (ds : List Decl) (n : ℕ) (d : Decl) → slice_get ds n ≡ Some d → (P d → ⊥) → NoneBefore P ds n → NoneBefore P ds (n + 1)
none_more P ds n d there not before k e less at h = by (nat_lt k n) refl
  where
    by : (b : Bool) → nat_lt k n ≡ b → ⊥
    by true is = before k e (grind (arith, nat_tests)) at h
    by false is =
        let same : k ≡ n = grind (arith, nat_tests) in
        let both : Some e ≡ Some d = sym at ∙ ap (slice_get ds) same ∙ there in
        let one : e ≡ d = cc in
        not (subst P one h)

patterns_more : (ss : List Quoted) (ps : List Lexeme) (s : Quoted) (p : Lexeme) → ArePatterns ss ps → IsPattern deepest p s.text → ArePatterns (ss ++ s ∷ []) (ps ++ p ∷ [])
patterns_more [] [] s p h is = (is, tt)
patterns_more [] (q ∷ ps) s p h is = absurd h
patterns_more (t ∷ ss) [] s p h is = absurd h
patterns_more (t ∷ ss) (q ∷ ps) s p h is = (h.0, patterns_more ss ps s p h.1 is)

-- no other patterns
only_more : (ss : List Quoted) (ps : List Lexeme) (s : Quoted) (p : Lexeme) → ((qs : List Lexeme) → ArePatterns ss qs → qs ≡ ps) → ((q : Lexeme) → IsPattern deepest q s.text → q ≡ p)
    → (qs : List Lexeme) → ArePatterns (ss ++ s ∷ []) qs → qs ≡ ps ++ p ∷ []
only_more ss ps s p only one qs h =
    let parts = split ss qs h in
    parts.1.1 ∙ (λ i. only parts.0 parts.1.2 i ++ one parts.1.0 parts.1.3 i ∷ [])
  where
    split : (ss : List Quoted) (qs : List Lexeme) → ArePatterns (ss ++ s ∷ []) qs → (front : List Lexeme) × ((last : Lexeme) × (qs ≡ front ++ last ∷ []) × ArePatterns ss front × IsPattern deepest last s.text)
    split [] [] h = absurd h
    split [] (q ∷ []) h = ([], (q, refl, tt, h.0))
    split [] (q ∷ r ∷ qs) h = absurd h.1
    split (t ∷ ss) [] h = absurd h
    split (t ∷ ss) (q ∷ qs) h = let p = split ss qs h.1 in (q ∷ p.0, (p.1.0, ap (λ l. q ∷ l) p.1.1, (h.0, p.1.2), p.1.3))

pub other : (ds : List Decl) (n : ℕ) (d : Decl) (ps : List Lexeme) (e : Option ℕ) → slice_get ds n ≡ Some d → IsOther d → ArePatternsOf ds n ps e → ArePatternsOf ds (n + 1) ps e
other ds n d ps e there is so_far = record {
  lexemes = let same : flat_map lexeme_text (take (n + 1) ds) ≡ flat_map lexeme_text (take n ds) = texts_more ds n d there ∙ ap (λ t. flat_map lexeme_text (take n ds) ++ t) (no_text d is) ∙ append-nil (flat_map lexeme_text (take n ds)) in
      subst (λ ss. ArePatterns ss ps) (sym same) so_far.lexemes;
  only = let same : flat_map lexeme_text (take (n + 1) ds) ≡ flat_map lexeme_text (take n ds) = texts_more ds n d there ∙ ap (λ t. flat_map lexeme_text (take n ds) ++ t) (no_text d is) ∙ append-nil (flat_map lexeme_text (take n ds)) in
      λ qs h. so_far.only qs (subst (λ ss. ArePatterns ss qs) same h);
  formed = none_more HasNoForm ds n d there (no_fault d is).0 so_far.formed;
  some = so_far.some;
  none = λ h. none_more MatchesEmpty ds n d there (no_fault d is).1 (so_far.none h);
  first = so_far.first;
}

-- the fault of the first text that is no pattern, where those before have forms
pub form_fault : (ds : List Decl) (n : ℕ) (d : Decl) (ps : List Lexeme) (e : Option ℕ) (f : SpecFault) → slice_get ds n ≡ Some d → ArePatternsOf ds n ps e → HasNoForm d → IsFormFault f d → IsLexemeFault ds f
form_fault ds n d ps e f there so_far no_form is = inl (d, record { place = n; there = there; holds = no_form; before = so_far.formed }, is)

within : (ds : List Decl) (n k : ℕ) (d : Decl) → length ds ≤ n → slice_get ds k ≡ Some d → k < n
within ds n k d end there = omega (arith, end, slice_get_within ds k d there)

-- after all declarations, the fault of the first pattern that matches the empty text
pub empty_fault : (ds : List Decl) (n place : ℕ) (d : Decl) (ps : List Lexeme) (f : SpecFault) → length ds ≤ n → slice_get ds place ≡ Some d → ArePatternsOf ds n ps (Some place) → (MatchesEmpty d → IsEmptyFault f d) → IsLexemeFault ds f
empty_fault ds n place d ps f end there so_far is =
    let found : IsFirstEmpty ds place = so_far.first place refl in
    let both : Some found.decl ≡ Some d = sym found.there ∙ there in
    let one : found.decl ≡ d = cc in
    let holds : MatchesEmpty d = subst MatchesEmpty one found.holds in
    inr (λ k x at h. so_far.formed k x (within ds n k x end at) at h, (d, record { place = place; there = there; holds = holds; before = found.before }, is holds))

-- the declaration's place is there
pub empty_within : (ds : List Decl) (n place : ℕ) (ps : List Lexeme) → ArePatternsOf ds n ps (Some place) → place < length ds
empty_within ds n place ps so_far = let found : IsFirstEmpty ds place = so_far.first place refl in slice_get_within ds place found.decl found.there

-- one lexeme phylum more
matches_there : (nm : Name) (s : Quoted) (p : Lexeme) → IsPattern deepest p s.text → ((q : Lexeme) → IsPattern deepest q s.text → q ≡ p) → MatchesEmpty (LexemeOf nm s) → Matches p []
matches_there nm s p form only h = let one : h.0 ≡ p = only h.0 h.1 in let P : Lexeme → Type 0 = λ q. Matches q [] in subst P one h.2

pub added : (ds : List Decl) (n : ℕ) (nm : Name) (s : Quoted) (ps qs : List Lexeme) (e : Option ℕ) (b : Bool) → slice_get ds n ≡ Some (LexemeOf nm s) → IsPatternAdded ps qs s b → ArePatternsOf ds n ps e → ArePatternsOf ds (n + 1) qs (first_empty e b n)
added ds n nm s ps qs e b there new so_far =
    let P : List Lexeme → Type 0 = λ rs. ArePatternsOf ds (n + 1) rs (first_empty e b n) in
    subst P (sym new.last) (record {
      lexemes =
          let more : ArePatterns (flat_map lexeme_text (take n ds) ++ s ∷ []) (ps ++ new.pattern ∷ []) = patterns_more (flat_map lexeme_text (take n ds)) ps s new.pattern so_far.lexemes new.form in
          subst (λ ss. ArePatterns ss (ps ++ new.pattern ∷ [])) (sym (texts_more ds n (LexemeOf nm s) there)) more;
      only = λ rs h. only_more (flat_map lexeme_text (take n ds)) ps s new.pattern so_far.only new.only rs (subst (λ ss. ArePatterns ss rs) (texts_more ds n (LexemeOf nm s) there) h);
      formed = none_more HasNoForm ds n (LexemeOf nm s) there (λ h. h new.pattern new.form) so_far.formed;
      some = λ h. All-append (λ p. Matches p [] → ⊥) ps (new.pattern ∷ []) (so_far.some (none_before e b h)) (All-cons (λ p. Matches p [] → ⊥) new.pattern [] (not_empty e b h new.empty_is) (All-nil (λ p. Matches p [] → ⊥)));
      none = λ h. none_more MatchesEmpty ds n (LexemeOf nm s) there (λ m. not_empty e b h new.empty_is (matches_there nm s new.pattern new.form new.only m)) (so_far.none (none_before e b h));
      first = firsts e b so_far.first so_far.none new.empty_is;
    })
  where
    none_before : (e : Option ℕ) (b : Bool) → first_empty e b n ≡ None → e ≡ None
    none_before (Some k) b h = h
    none_before None b h = refl

    not_empty : (e : Option ℕ) (b : Bool) → first_empty e b n ≡ None → (IsTrue b ↔ Matches new.pattern []) → Matches new.pattern [] → ⊥
    not_empty (Some k) b h iff m = absurd (cc)
    not_empty None true h iff m = absurd (cc)
    not_empty None false h iff m = let is : false ≡ true = iff.1 m in absurd (cc)

    firsts : (e : Option ℕ) (b : Bool) → ((place : ℕ) → e ≡ Some place → IsFirstEmpty ds place) → (e ≡ None → NoneBefore MatchesEmpty ds n) → (IsTrue b ↔ Matches new.pattern []) → (place : ℕ) → first_empty e b n ≡ Some place → IsFirstEmpty ds place
    firsts (Some k) b found none iff place h = found place h
    firsts None true found none iff place h =
        let same : n ≡ place = cc in
        subst (IsFirstEmpty ds) same (record { decl = LexemeOf nm s; there = there; holds = (new.pattern, new.form, iff.0 refl); before = none refl })
    firsts None false found none iff place h = absurd (cc)

-- the tree of a declaration of the text
pub tree_there : (ds : List written.Decl) (n : ℕ) (x : written.Decl) (d : Decl) → n < length ds → x ≡ get_or ds n x → tree_of x ≡ d → slice_get (trees_of ds) n ≡ Some d
tree_there ds n x d within at is = slice_get-map tree_of ds n ∙ ap (option_map tree_of) (slice_get_read ds (length ds) n x refl within at) ∙ ap Some is

pub found_within : (ds : List written.Decl) (n place : ℕ) (ps : List Lexeme) (e : Option ℕ) → ArePatternsOf (trees_of ds) n ps e → e ≡ Some place → place < length ds
found_within ds n place ps e so_far is = subst (λ m. place < m) (length-map ds tree_of) (empty_within (trees_of ds) n place ps (subst (ArePatternsOf (trees_of ds) n ps) is so_far))

pub all_seen : (ds : List written.Decl) (n : ℕ) → length ds ≤ n → length (trees_of ds) ≤ n
all_seen ds n h = subst (λ m. m ≤ n) (sym (length-map ds tree_of)) h

pub item_there : (ds : List written.Decl) (n : ℕ) (x : written.Decl) → slice_get ds n ≡ Some x → slice_get (trees_of ds) n ≡ Some (tree_of x)
item_there ds n x there = slice_get-map tree_of ds n ∙ ap (option_map tree_of) there
