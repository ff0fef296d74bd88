-- It cannot be that a text has no verdict.
use Rattle.std.specs.Prelude.{◌≡◌, refl, ℕ, zero, suc, ◌<◌, List, [], ◌∷◌, ◌++◌, flat_map, Some, Result, Ok, Err, slice_get}
use Rattle.std.proofs.Common.{◌⊎◌, inl, inr, sym, subst, arith}
use Rattle.std.proofs.lemmas.Option.{same_Some}
use Rattle.sg_kinds.specs.Lexemes.{Lexeme}
use Rattle.sg_kinds.specs.Values.{Bytes}
use Rattle.sg_kinds.specs.declared.fault.SpecFault.{SpecFault}
use Rattle.sg_kinds.specs.declared.fault.SpecFault.TheVariants.{PatternForm}
use Rattle.sg_kinds.specs.declared.spec.Spec.{Spec}
use Rattle.sg_ast.specs.Declarations.{Decl, Root, Listed, Optional, Operators, LexemeOf, Attributes, Equations, Schemes, Function, Transform, Productions, Entry, Precedence}
use Rattle.sg_ast.specs.Parts.{lexeme_text}
use Rattle.sg_ast.specs.declared.name.Quoted.{Quoted}
use Rattle.sg_patterns.specs.Spelling.{IsPattern, deepest}
use Rattle.sg_load.specs.FirstFault as fault
use Rattle.sg_load.specs.FirstFault.{Phase, HasNoFaultOf, HaveNoFault, IsFaultOf, IsFirstFault, phases}
use Rattle.sg_load.specs.Patterns.{AreLexemes, ArePatterns, HasNoForm, IsFormFault}
use Rattle.sg_load.specs.Rows.{IsFirst}
use Rattle.sg_load.specs.SpecOf.{IsSpecOf, spec_with}
use Rattle.sg_load.specs.Trees.{trees_in}
use Rattle.sg_load.specs.Verdict.{Verdict, Refused, Accepted, IsOfTrees, IsVerdict}

-- it cannot be that neither something nor its contrary is so
neither : {A : Type 0} → ((A ⊎ (A → ⊥)) → ⊥) → ⊥
neither k = k (inr (λ a. k (inl a)))

-- nor that a declaration has neither a text without a form nor patterns of its texts
abbrev HasForm : Decl → Type 0
HasForm d = (ps : List Lexeme) × ArePatterns (lexeme_text d) ps × (HasNoForm d → ⊥)

bare : (d : Decl) → lexeme_text d ≡ [] → (HasNoForm d → ⊥) → HasForm d
bare d is not = ([], subst (λ ss. ArePatterns ss []) (sym is) tt, not)

form : (d : Decl) → ((HasNoForm d ⊎ HasForm d) → ⊥) → ⊥
form (LexemeOf n s) k = neither {A = (p : Lexeme) × IsPattern deepest p s.text} by
  where
    by : ((p : Lexeme) × IsPattern deepest p s.text) ⊎ (((p : Lexeme) × IsPattern deepest p s.text) → ⊥) → ⊥
    by (inl it) = k (inr (it.0 ∷ [], (it.1, tt), λ none. none it.0 it.1))
    by (inr none) = k (inl (λ p is. none (p, is)))
form (Root n) k = k (inr (bare (Root n) refl (λ h. h)))
form (Listed n) k = k (inr (bare (Listed n) refl (λ h. h)))
form (Optional l n) k = k (inr (bare (Optional l n) refl (λ h. h)))
form (Operators n alts) k = k (inr (bare (Operators n alts) refl (λ h. h)))
form (Attributes n attrs) k = k (inr (bare (Attributes n attrs) refl (λ h. h)))
form (Equations n op locals es) k = k (inr (bare (Equations n op locals es) refl (λ h. h)))
form (Schemes n op view ss) k = k (inr (bare (Schemes n op view ss) refl (λ h. h)))
form (Function t n ps e) k = k (inr (bare (Function t n ps e) refl (λ h. h)))
form (Transform n s q e) k = k (inr (bare (Transform n s q e) refl (λ h. h)))
form (Productions n rights) k = k (inr (bare (Productions n rights) refl (λ h. h)))
form (Entry p n a) k = k (inr (bare (Entry p n a) refl (λ h. h)))
form (Precedence g ls p) k = k (inr (bare (Precedence g ls p) refl (λ h. h)))

patterns_append : (ss us : List Quoted) (ps qs : List Lexeme) → ArePatterns ss ps → ArePatterns us qs → ArePatterns (ss ++ us) (ps ++ qs)
patterns_append [] us [] qs a b = b
patterns_append [] us (p ∷ ps) qs a b = absurd a
patterns_append (s ∷ ss) us [] qs a b = absurd a
patterns_append (s ∷ ss) us (p ∷ ps) qs a b = (a.0, patterns_append ss us ps qs a.1 b)

-- nor that declarations have neither a first text without a form nor patterns of all texts
abbrev AreFormed : List Decl → Type 0
AreFormed ds = ((d : Decl) × IsFirst HasNoForm ds d) ⊎ ((ps : List Lexeme) × AreLexemes ds ps)

here : (d : Decl) (ds : List Decl) → HasNoForm d → IsFirst HasNoForm (d ∷ ds) d
here d ds none = record { place = 0; there = refl; holds = none; before = λ k y low. absurd (omega (arith, low)) }

later : (d : Decl) (ds : List Decl) (e : Decl) → (HasNoForm d → ⊥) → IsFirst HasNoForm ds e → IsFirst HasNoForm (d ∷ ds) e
later d ds e not first = record { place = suc first.place; there = first.there; holds = first.holds; before = before }
  where
    before : (k : ℕ) (y : Decl) → k < suc first.place → slice_get (d ∷ ds) k ≡ Some y → HasNoForm y → ⊥
    before zero y low at none = not (subst HasNoForm (sym (same_Some d y at)) none)
    before (suc k) y low at none = first.before k y (omega (arith, low)) at none

formed : (ds : List Decl) → (AreFormed ds → ⊥) → ⊥
formed [] k = k (inr ([], tt))
formed (d ∷ ds) k = form d (λ own. formed ds (λ rest. k (both own rest)))
  where
    both : HasNoForm d ⊎ HasForm d → AreFormed ds → AreFormed (d ∷ ds)
    both (inl none) rest = inl (d, here d ds none)
    both (inr own) (inl it) = inl (it.0, later d ds it.0 own.2 it.1)
    both (inr own) (inr all) = inr (own.0 ++ all.0, patterns_append (lexeme_text d) (flat_map lexeme_text ds) own.0 all.0 own.1 all.1)

form_fault : (d : Decl) → HasNoForm d → (f : SpecFault) × IsFormFault f d
form_fault (LexemeOf n s) none = (PatternForm s.place n.text, refl)
form_fault (Root n) none = absurd none
form_fault (Listed n) none = absurd none
form_fault (Optional l n) none = absurd none
form_fault (Operators n alts) none = absurd none
form_fault (Attributes n attrs) none = absurd none
form_fault (Equations n op locals es) none = absurd none
form_fault (Schemes n op view ss) none = absurd none
form_fault (Function t n ps e) none = absurd none
form_fault (Transform n s q e) none = absurd none
form_fault (Productions n rights) none = absurd none
form_fault (Entry p n a) none = absurd none
form_fault (Precedence g ls p) none = absurd none

-- nor that declarations whose patterns have no fault have no record
recorded : (ds : List Decl) → HasNoFaultOf ds fault.Lexemes → (((spec : Spec) × IsSpecOf ds spec) → ⊥) → ⊥
recorded ds none k = formed ds by
  where
    by : AreFormed ds → ⊥
    by (inl it) = let f = form_fault it.0 it.1.holds in none f.0 (inl (it.0, it.1, f.1))
    by (inr all) = k (spec_with ds all.0, record { lexemes = all.0; patterns = all.1; made = refl })

-- nor that there is neither a first fault nor none
first_or_none : (ds : List Decl) (ps : List Phase) → ((((f : SpecFault) × IsFirstFault ds ps f) ⊎ HaveNoFault ds ps) → ⊥) → ⊥
first_or_none ds [] k = k (inr tt)
first_or_none ds (p ∷ ps) k = neither {A = (f : SpecFault) × IsFaultOf ds p f} (by (first_or_none ds ps))
  where
    with_more : HasNoFaultOf ds p → ((f : SpecFault) × IsFirstFault ds ps f) ⊎ HaveNoFault ds ps → ⊥
    with_more quiet (inl it) = k (inl (it.0, inr (quiet, it.1)))
    with_more quiet (inr all) = k (inr (quiet, all))

    by : (((((f : SpecFault) × IsFirstFault ds ps f) ⊎ HaveNoFault ds ps) → ⊥) → ⊥) → ((f : SpecFault) × IsFaultOf ds p f) ⊎ (((f : SpecFault) × IsFaultOf ds p f) → ⊥) → ⊥
    by rest (inl it) = k (inl (it.0, inl it.1))
    by rest (inr none) = rest (with_more (λ f is. none (f, is)))

pub judged : (bytes : Bytes) → ((v : Verdict) → IsVerdict bytes v → ⊥) → ⊥
judged bytes k = by (trees_in bytes) k
  where
    by : (r : Result (List Decl) SpecFault) → ((v : Verdict) → IsOfTrees r v → ⊥) → ⊥
    by (Err f) k = k (Refused f) refl
    by (Ok ds) k = first_or_none ds phases told
      where
        told : ((f : SpecFault) × IsFirstFault ds phases f) ⊎ HaveNoFault ds phases → ⊥
        told (inl it) = k (Refused it.0) it.1
        told (inr none) = recorded ds none.1.1.1.1.1.0 (λ s. k (Accepted s.0) (none, s.1))
