-- The fault of lexeme patterns is one.
use Rattle.std.proofs.Common.{◌≡◌, List, Some, sym, ap, ◌∙◌, subst, inl, inr, arith}
use Rattle.std.proofs.lemmas.Bool.{cases_lt}
use Rattle.std.specs.Prelude.{slice_get}
use Rattle.sg_kinds.specs.declared.fault.SpecFault.{SpecFault}
use Rattle.sg_ast.specs.Declarations.{Decl, Root, Listed, Optional, Operators, LexemeOf, Attributes, Equations, Schemes, Function, Transform, Productions, Entry, Precedence}
use Rattle.sg_load.specs.Rows.{IsFirst, HasNone}
use Rattle.sg_load.specs.Patterns.{HasNoForm, IsFormFault, MatchesEmpty, IsEmptyFault, IsPatternForm, IsEmptyLexeme, IsLexemeFault}

one_first : (P : Decl → Type 0) (ds : List Decl) (d e : Decl) → IsFirst P ds d → IsFirst P ds e → d ≡ e
one_first P ds d e a b = elim (cases_lt a.place b.place) [
  | inl less ↦ absurd (b.before a.place d less a.there a.holds)
  | inr ge ↦ elim (cases_lt b.place a.place) [
    | inl more ↦ absurd (a.before b.place e more b.there b.holds)
    | inr le ↦
        let same : a.place ≡ b.place = omega (arith, ge, le) in
        let both : Some d ≡ Some e = sym a.there ∙ ap (slice_get ds) same ∙ b.there in
        cc
  ]
]

one_form : (d : Decl) (f g : SpecFault) → IsFormFault f d → IsFormFault g d → f ≡ g
one_form (LexemeOf n s) f g a b = a ∙ sym b
one_form (Root n) f g a b = absurd a
one_form (Listed n) f g a b = absurd a
one_form (Optional l n) f g a b = absurd a
one_form (Operators n alts) f g a b = absurd a
one_form (Attributes n attrs) f g a b = absurd a
one_form (Equations n op locals es) f g a b = absurd a
one_form (Schemes n op view ss) f g a b = absurd a
one_form (Function t n ps e) f g a b = absurd a
one_form (Transform n s q e) f g a b = absurd a
one_form (Productions n rights) f g a b = absurd a
one_form (Entry p n m) f g a b = absurd a
one_form (Precedence gr ls p) f g a b = absurd a

one_empty : (d : Decl) (f g : SpecFault) → IsEmptyFault f d → IsEmptyFault g d → f ≡ g
one_empty (LexemeOf n s) f g a b = a ∙ sym b
one_empty (Root n) f g a b = absurd a
one_empty (Listed n) f g a b = absurd a
one_empty (Optional l n) f g a b = absurd a
one_empty (Operators n alts) f g a b = absurd a
one_empty (Attributes n attrs) f g a b = absurd a
one_empty (Equations n op locals es) f g a b = absurd a
one_empty (Schemes n op view ss) f g a b = absurd a
one_empty (Function t n ps e) f g a b = absurd a
one_empty (Transform n s q e) f g a b = absurd a
one_empty (Productions n rights) f g a b = absurd a
one_empty (Entry p n m) f g a b = absurd a
one_empty (Precedence gr ls p) f g a b = absurd a

both_forms : (ds : List Decl) (f g : SpecFault) → IsPatternForm ds f → IsPatternForm ds g → f ≡ g
both_forms ds f g a b =
    let same : a.0 ≡ b.0 = one_first HasNoForm ds a.0 b.0 a.1 b.1 in
    one_form b.0 f g (subst_fault a.0 b.0 same a.2) b.2
  where
    subst_fault : (d e : Decl) → d ≡ e → IsFormFault f d → IsFormFault f e
    subst_fault d e is h = subst (λ (x : Decl). IsFormFault f x) is h

both_empties : (ds : List Decl) (f g : SpecFault) → IsEmptyLexeme ds f → IsEmptyLexeme ds g → f ≡ g
both_empties ds f g a b =
    let same : a.0 ≡ b.0 = one_first MatchesEmpty ds a.0 b.0 a.1 b.1 in
    one_empty b.0 f g (subst_fault a.0 b.0 same a.2) b.2
  where
    subst_fault : (d e : Decl) → d ≡ e → IsEmptyFault f d → IsEmptyFault f e
    subst_fault d e is h = subst (λ (x : Decl). IsEmptyFault f x) is h

no_form : (ds : List Decl) (f : SpecFault) → HasNone HasNoForm ds → IsPatternForm ds f → ⊥
no_form ds f none a = none a.1.place a.0 a.1.there a.1.holds

no_empty : (ds : List Decl) (f : SpecFault) → HasNone MatchesEmpty ds → IsEmptyLexeme ds f → ⊥
no_empty ds f none a = none a.1.place a.0 a.1.there a.1.holds

pub one_lexeme_fault : (ds : List Decl) (f g : SpecFault) → IsLexemeFault ds f → IsLexemeFault ds g → f ≡ g
one_lexeme_fault ds f g a b = elim a [
  | inl x ↦ elim b [ inl y ↦ both_forms ds f g x y | inr y ↦ absurd (no_form ds f y.0 x) ]
  | inr x ↦ elim b [ inl y ↦ absurd (no_form ds g x.0 y) | inr y ↦ both_empties ds f g x.1 y.1 ]
]

pub no_lexeme_fault : (ds : List Decl) → HasNone HasNoForm ds × HasNone MatchesEmpty ds → (f : SpecFault) → IsLexemeFault ds f → ⊥
no_lexeme_fault ds none f a = elim a [ inl x ↦ no_form ds f none.0 x | inr x ↦ no_empty ds f none.1 x.1 ]
