-- The fault that is found is that of the first bare reference.
use Rattle.std.proofs.Common.{◌≡◌, ℕ, zero, suc, ◌<◌, ◌≤◌, ◌⊎◌, inl, inr, Bool, true, false, cond, List, [], ◌∷◌, Option, Some, None, slice_get, option_map, unwrap_or, refl, sym, ap, ◌∙◌, subst, arith}
use Rattle.std.specs.Prelude.{Result, Ok, Err, IfOk}
use Rattle.std.proofs.lemmas.Bool.{cases_lt}
use Rattle.sg_kinds.specs.Specification.{phylum_of}
use Rattle.sg_kinds.specs.declared.fault.SpecFault.{SpecFault}
use Rattle.sg_kinds.specs.declared.fault.SpecFault.TheVariants as fault
use Rattle.sg_ast.specs.Declarations.{Decl}
use Rattle.sg_ast.specs.FirstFault.{or_else}
use Rattle.sg_names.specs.declared.table.Table.{Table}
use Rattle.sg_remote.specs.Atoms.{atoms}
use Rattle.sg_remote.specs.Bearing.{is_open}
use Rattle.sg_remote.specs.NoEnclosing.{IsBare, IsNoEnclosing, all_enclosed, some_bare, is_bare, first_bare, no_enclosing}
use Rattle.sg_remote.specs.declared.atoms.Atom.{Atom}
use Rattle.sg_remote.proofs.Borne.{open_only, open_all}

bare_is : (t : Table) (a : Atom) → is_bare t a ≡ true → IsBare t a
bare_is t a is = by (phylum_of t.ops a.op) refl is
  where
    by : (o : Option ℕ) → phylum_of t.ops a.op ≡ o → unwrap_or (option_map (is_open t a.list) o) false ≡ true → IsBare t a
    by None left up = absurd (cc up)
    by (Some p) left up = record { phylum = p; left = left; opens = open_only t a.list p up }

is_bare_then : (t : Table) (a : Atom) → IsBare t a → is_bare t a ≡ true
is_bare_then t a is = ap (λ o. unwrap_or (option_map (is_open t a.list) o) false) is.left ∙ open_all t a.list is.phylum is.opens

-- the first bare one of a list
data Outcome (t : Table) (rs : List Atom) (f : Option SpecFault) : Type 0 where
  nowhere : ((k : ℕ) (a : Atom) → slice_get rs k ≡ Some a → IsBare t a → ⊥) → f ≡ None → Outcome t rs f
  somewhere : (k : ℕ) (a : Atom) → slice_get rs k ≡ Some a → IsBare t a
      → ((j : ℕ) (b : Atom) → j < k → slice_get rs j ≡ Some b → IsBare t b → ⊥)
      → f ≡ Some (fault.NoEnclosing a.place) → Outcome t rs f

outcome : (t : Table) (rs : List Atom) → Outcome t rs (first_bare t rs)
outcome t [] = nowhere (λ k a at is. cc at) refl
outcome t (a ∷ rs) = by (is_bare t a) refl (outcome t rs)
  where
    first_not : is_bare t a ≡ false → (b : Atom) → Some a ≡ Some b → IsBare t b → ⊥
    first_not fine b at is = let same : a ≡ b = cc at in cc (sym fine ∙ ap (is_bare t) same ∙ is_bare_then t b is)

    shifted : is_bare t a ≡ false → Outcome t rs (first_bare t rs) → Outcome t (a ∷ rs) (first_bare t rs)
    shifted fine (nowhere none is) = nowhere (λ k b at bare. other k b at bare) is
      where
        other : (k : ℕ) (b : Atom) → slice_get (a ∷ rs) k ≡ Some b → IsBare t b → ⊥
        other zero b at bare = first_not fine b at bare
        other (suc k) b at bare = none k b at bare
    shifted fine (somewhere k c at bare before is) = somewhere (suc k) c at bare (λ j b low there other. earlier j b low there other) is
      where
        earlier : (j : ℕ) (b : Atom) → j < suc k → slice_get (a ∷ rs) j ≡ Some b → IsBare t b → ⊥
        earlier zero b low there other = first_not fine b there other
        earlier (suc j) b low there other = before j b (omega (arith, low)) there other

    by : (b : Bool) → is_bare t a ≡ b → Outcome t rs (first_bare t rs) → Outcome t (a ∷ rs) (or_else (cond b (Some (fault.NoEnclosing a.place)) None) (first_bare t rs))
    by true is rest = somewhere 0 a refl (bare_is t a is) (λ j b low. absurd (omega (arith, low))) refl
    by false is rest = shifted is rest

no_enclosing_is : (t : Table) (ds : List Decl) → IsNoEnclosing t ds (no_enclosing t ds)
no_enclosing_is t ds = by (outcome t (atoms t ds))
  where
    by : Outcome t (atoms t ds) (no_enclosing t ds) → IsNoEnclosing t ds (no_enclosing t ds)
    by (nowhere none is) = all_enclosed none is
    by (somewhere k a at bare before is) = some_bare k a at bare before is

-- there is one answer
pub one_answer : (t : Table) (ds : List Decl) (f g : Option SpecFault) → IsNoEnclosing t ds f → IsNoEnclosing t ds g → f ≡ g
one_answer t ds f g (all_enclosed none e) (all_enclosed other h) = e ∙ sym h
one_answer t ds f g (all_enclosed none e) (some_bare k a at bare before h) = absurd (none k a at bare)
one_answer t ds f g (some_bare k a at bare before e) (all_enclosed none h) = absurd (none k a at bare)
one_answer t ds f g (some_bare k a at bare before e) (some_bare j b there other first h) = by (cases_lt k j) (cases_lt j k)
  where
    by : (k < j) ⊎ (j ≤ k) → (j < k) ⊎ (k ≤ j) → f ≡ g
    by (inl low) c = absurd (first k a low at bare)
    by (inr high) (inl low) = absurd (before j b low there other)
    by (inr high) (inr most) =
        let same : k ≡ j = omega (arith, high, most) in
        let one : a ≡ b = cc (sym at ∙ ap (slice_get (atoms t ds)) same ∙ there) in
        e ∙ ap (λ (x : Atom). Some (fault.NoEnclosing x.place)) one ∙ sym h

-- an answer that is computed is the answer
pub answers : {E : Type 0} (t : Table) (ds : List Decl) (r : Result (Option SpecFault) E) → IfOk r (λ f. f ≡ no_enclosing t ds) → IfOk r (IsNoEnclosing t ds)
answers t ds (Ok f) e = subst (IsNoEnclosing t ds) (sym e) (no_enclosing_is t ds)
answers t ds (Err f) e = tt
