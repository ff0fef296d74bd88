-- The first fault of schemes, of which there is one at most.
use Rattle.std.proofs.Common.{◌≡◌, List, [], ◌∷◌, Option, Some, None, refl, sym, ap, ◌∙◌, subst}
use Rattle.sg_kinds.specs.declared.fault.SpecFault.{SpecFault}
use Rattle.sg_ast.specs.Declarations.{Decl}
use Rattle.sg_ast.specs.FirstFault.{or_else, first_of}
use Rattle.sg_names.specs.declared.table.Table.{Table}
use Rattle.sg_remote.specs.Longer.{names_of}
use Rattle.sg_schemes.specs.NoScheme.{IsNoScheme}
use Rattle.sg_schemes.specs.Places.{scheme_kids}
use Rattle.sg_schemes.specs.ShownFlags.{no_scheme}
use Rattle.sg_schemes.specs.Strings.{scheme_text}
use Rattle.sg_schemes.proofs.FirstMissing.{no_scheme_is, one_answer}
use Rattle.sg_load.specs.FirstFault.{IsSchemesFault, HasNoFaultOf}
use Rattle.sg_load.specs.FirstFault.Phase.{Schemes}
use Rattle.sg_load.specs.Only.{IsTheFaultOf}

one : (ds : List Decl) (a b : Option SpecFault) → IsSchemesFault ds a → IsSchemesFault ds b → a ≡ b
one ds a b x y =
    x.first ∙ ap (λ m. first_of (m ∷ scheme_kids (names_of ds) ds ∷ scheme_text ds ∷ [])) (one_answer (names_of ds) ds x.missing y.missing x.missing_is y.missing_is) ∙ sym y.first

pub the_schemes_fault : (ds : List Decl) (f : SpecFault) → IsSchemesFault ds (Some f) → IsTheFaultOf ds Schemes f
the_schemes_fault ds f is = record { is = is; only = λ g h. let e = one ds (Some g) (Some f) h is in cc e }

pub no_schemes_fault : (ds : List Decl) → IsSchemesFault ds None → HasNoFaultOf ds Schemes
no_schemes_fault ds none f is = let e = one ds None (Some f) none is in cc e

-- where schemes have no fault, none is missing, and places and strings are right
pub schemes_right : (ds : List Decl) → HasNoFaultOf ds Schemes → IsSchemesFault ds None
schemes_right ds none = by (first_of (no_scheme (names_of ds) ds ∷ scheme_kids (names_of ds) ds ∷ scheme_text ds ∷ [])) refl
  where
    by : (f : Option SpecFault) → f ≡ first_of (no_scheme (names_of ds) ds ∷ scheme_kids (names_of ds) ds ∷ scheme_text ds ∷ []) → IsSchemesFault ds None
    by None is = record { missing = no_scheme (names_of ds) ds; missing_is = no_scheme_is (names_of ds) ds; first = is }
    by (Some f) is = absurd (none f (record { missing = no_scheme (names_of ds) ds; missing_is = no_scheme_is (names_of ds) ds; first = is }))

-- what is found one after the other
pub found_missing : (ds : List Decl) (t : Table) (x : Option SpecFault) (f : SpecFault) → t ≡ names_of ds → IsNoScheme t ds x → x ≡ Some f → IsSchemesFault ds (Some f)
found_missing ds t x f same is some = record {
  missing = Some f;
  missing_is = subst (λ (u : Table). IsNoScheme u ds (Some f)) same (subst (IsNoScheme t ds) some is);
  first = refl;
}

last : (a b : Option SpecFault) → or_else a b ≡ or_else a (or_else b None)
last None None = refl
last None (Some f) = refl
last (Some f) b = refl

pub found_later : (ds : List Decl) (t : Table) (x f : Option SpecFault) → t ≡ names_of ds → IsNoScheme t ds x → x ≡ None → f ≡ or_else (scheme_kids t ds) (scheme_text ds) → IsSchemesFault ds f
found_later ds t x f same is none found = record {
  missing = None;
  missing_is = subst (λ (u : Table). IsNoScheme u ds None) same (subst (IsNoScheme t ds) none is);
  first = found ∙ ap (λ (u : Table). or_else (scheme_kids u ds) (scheme_text ds)) same ∙ last (scheme_kids (names_of ds) ds) (scheme_text ds);
}
