-- What a judgement is where some phases have no fault and the next one has, and where none has any.
use Rattle.std.proofs.Common.{◌≡◌, ◌<◌, ◌≤◌, ◌^◌, List, [], ◌∷◌, ◌++◌, length, Option, Some, None, refl, sym, ap, ◌∙◌, subst}
use Rattle.std.specs.Prelude.{All, Result, Ok, Err, IfOk, OnOk}
use Rattle.sg_kinds.specs.Matches.{Matches}
use Rattle.sg_kinds.specs.Lexemes.{Lexeme}
use Rattle.sg_kinds.specs.Sound.{HasLexemes, IsSound}
use Rattle.sg_kinds.specs.declared.fault.SpecFault.{SpecFault}
use Rattle.sg_kinds.specs.declared.spec.Rule.{Rule}
use Rattle.sg_kinds.specs.declared.spec.Spec.{Spec}
use Rattle.sg_ast.specs.Declarations.{Decl}
use Rattle.sg_ast.specs.FirstFault.{or_else}
use Rattle.sg_ast.specs.Written.{HaveWritten}
use Rattle.sg_names.specs.Names as written_names
use Rattle.sg_names.specs.declared.table.Table.{Table}
use Rattle.sg_resolve.specs.Resolved.{resolve_fault}
use Rattle.sg_typing.specs.Bodies.{exprs_in}
use Rattle.sg_typing.specs.Checked.{typed_of, first_fault}
use Rattle.sg_typing.specs.declared.checking.Typed.{Typed}
use Rattle.sg_equations.specs.Complete.{incomplete}
use Rattle.sg_equations.specs.RulesOf.{rules_in}
use Rattle.sg_record.specs.Entries.{entry_twice, entry_type}
use Rattle.sg_record.specs.Record.{record_of}
use Rattle.sg_remote.specs.Handing.{handing}
use Rattle.sg_remote.specs.Lists.{lists}
use Rattle.sg_remote.specs.Longer.{names_of}
use Rattle.sg_remote.specs.NoEnclosing.{IsNoEnclosing, no_enclosing}
use Rattle.sg_remote.proofs.FirstBare.{answers, one_answer}
use Rattle.sg_load.specs.SpecOf.{equations_of}
use Rattle.sg_load.specs.FirstFault.{HasNoFaultOf, HaveNoFault, early_phases, equation_phases, shown_phases, late_phases, phases, entries_fault}
use Rattle.sg_load.specs.FirstFault.Phase.{Names, Types, Equations, Enclosing}
use Rattle.sg_load.specs.Verdict.Verdict.{Refused, Accepted}
use Rattle.sg_load.specs.Only.{IsTheSpec, IsTheFault, IsTheFaultOf, IsTheJudgement}
use Rattle.sg_load.proofs.FirstLaws.{here, later, later_all, none_both, accepted, refused, the_computed, none_computed}
use Rattle.sg_load.proofs.Phases.{none_of}
use Rattle.sg_load.proofs.SchemesFaults.{schemes_right}
use Rattle.sg_load.proofs.SoundSpec.{sound}

-- what one clause says of a value, where another one holds for it
pub if_ok_where : {A E X : Type 0} (P Q : A → Type 0) (r : Result A E) → ((x : A) → P x → X → Q x) → IfOk r P → OnOk r X → IfOk r Q
if_ok_where P Q (Ok x) f p h = f x p h
if_ok_where P Q (Err e) f p h = tt

pub if_ok_both : {A E X : Type 0} (P Q R : A → Type 0) (r : Result A E) → ((x : A) → P x → Q x → X → R x) → IfOk r P → IfOk r Q → OnOk r X → IfOk r R
if_ok_both P Q R (Ok x) f p q h = f x p q h
if_ok_both P Q R (Err e) f p q h = tt

-- the last of some rows
last : (b : Option SpecFault) → or_else b None ≡ b
last None = refl
last (Some f) = refl

second : (a b : Option SpecFault) → a ≡ None → b ≡ or_else a (or_else b None)
second a b e = sym (ap (λ (o : Option SpecFault). or_else o (or_else b None)) e ∙ last b)

pub second_entries : (ds : List Decl) (t : Table) (x : Option SpecFault) → t ≡ names_of ds → x ≡ entry_twice t ds → x ≡ None → entry_type t ds ≡ entries_fault ds
second_entries ds t x same is none =
    ap (λ (u : Table). entry_type u ds) same ∙
    second (entry_twice (names_of ds) ds) (entry_type (names_of ds) ds) (sym (is ∙ ap (λ (u : Table). entry_twice u ds) same) ∙ none)

pub kept_lexemes : (t : Table) (ds : List Decl) (rules : List Rule) (lexemes : List Lexeme) (spec : Spec) → spec ≡ record_of t ds rules lexemes → All (λ p. Matches p [] → ⊥) lexemes → HasLexemes spec
unfolding record_of
kept_lexemes t ds rules lexemes spec is some = subst HasLexemes (sym is) some

-- the rules are the equations, and those that hand far attributes down
pub rules_made : (ds : List Decl) (t : Table) (x : Typed) (written rules : List Rule) → t ≡ names_of ds → x ≡ typed_of t ds → written ≡ rules_in t x.exprs 0 ds → rules ≡ written ++ handing t (length x.exprs) → rules ≡ equations_of ds
rules_made ds t x written rules same typed is all =
    all ∙ ap (λ (l : List Rule). l ++ handing t (length x.exprs)) is ∙ ap (λ (y : Typed). rules_in t y.exprs 0 ds ++ handing t (length y.exprs)) typed
    ∙ ap (λ (u : Table). rules_in u (exprs_in u ds) 0 ds ++ handing u (length (exprs_in u ds))) same

-- equations, and references to enclosing nodes
module _ (ds : List Decl) (t : Table) (same : t ≡ names_of ds) where
  pub incomplete_fault : (f : SpecFault) → incomplete t ds ≡ Some f → IsTheFault ds (equation_phases ++ (shown_phases ++ late_phases)) f
  incomplete_fault f is =
      let e : incomplete (names_of ds) ds ≡ Some f = sym (ap (λ (u : Table). incomplete u ds) same) ∙ is in
      here ds Equations (Enclosing ∷ (shown_phases ++ late_phases)) f (record { is = e; only = the_computed (incomplete (names_of ds) ds) f e })

  no_equations : incomplete t ds ≡ None → HasNoFaultOf ds Equations
  no_equations none = none_computed (incomplete (names_of ds) ds) (sym (ap (λ (u : Table). incomplete u ds) same) ∙ none)

  pub bare_fault : incomplete t ds ≡ None → (x : Option SpecFault) → IsNoEnclosing t ds x → (f : SpecFault) → x ≡ Some f → IsTheFault ds (equation_phases ++ (shown_phases ++ late_phases)) f
  bare_fault none x bare f some =
      let is : IsNoEnclosing (names_of ds) ds (Some f) = subst (λ (u : Table). IsNoEnclosing u ds (Some f)) same (subst (IsNoEnclosing t ds) some bare) in
      let the : IsTheFaultOf ds Enclosing f = record { is = is; only = λ g h. let e = one_answer (names_of ds) ds (Some g) (Some f) h is in cc e } in
      later ds Equations (Enclosing ∷ (shown_phases ++ late_phases)) f (no_equations none) (here ds Enclosing (shown_phases ++ late_phases) f the)

  pub no_equation_fault : incomplete t ds ≡ None → (x : Option SpecFault) → IsNoEnclosing t ds x → x ≡ None → HaveNoFault ds equation_phases
  no_equation_fault none x enclosed is =
      let e : IsNoEnclosing (names_of ds) ds None = subst (λ (u : Table). IsNoEnclosing u ds None) same (subst (IsNoEnclosing t ds) is enclosed) in
      (no_equations none, ((λ f h. let o = one_answer (names_of ds) ds (Some f) None h e in cc o), tt))

-- where no reference to enclosing nodes is bare
enclosed_right : (ds : List Decl) → HasNoFaultOf ds Enclosing → IsNoEnclosing (names_of ds) ds None
enclosed_right ds none = by (no_enclosing (names_of ds) ds) (answers {E = SpecFault} (names_of ds) ds (Ok (no_enclosing (names_of ds) ds)) refl)
  where
    by : (x : Option SpecFault) → IsNoEnclosing (names_of ds) ds x → IsNoEnclosing (names_of ds) ds None
    by None is = is
    by (Some f) is = absurd (none f is)

-- where the first phase has a fault
pub names_fault : (ds : List Decl) (f : SpecFault) → resolve_fault ds ≡ Some f → IsTheFault ds phases f
names_fault ds f is = here ds Names (Types ∷ equation_phases ++ (shown_phases ++ late_phases)) f (record { is = is; only = the_computed (resolve_fault ds) f is })

module _ (ds : List Decl) (t : Table) (same : t ≡ names_of ds) (named : resolve_fault ds ≡ None) where
  no_names : HasNoFaultOf ds Names
  no_names = none_computed (resolve_fault ds) named

  pub types_fault : (f : SpecFault) → first_fault t ds ≡ Some f → IsTheFault ds phases f
  types_fault f is =
      let e : first_fault (names_of ds) ds ≡ Some f = sym (ap (λ (u : Table). first_fault u ds) same) ∙ is in
      later ds Names (Types ∷ equation_phases ++ (shown_phases ++ late_phases)) f no_names
      (here ds Types (equation_phases ++ (shown_phases ++ late_phases)) f (record { is = e; only = the_computed (first_fault (names_of ds) ds) f e }))

  module _ (typed : first_fault t ds ≡ None) where
    no_types : HasNoFaultOf ds Types
    no_types = none_computed (first_fault (names_of ds) ds) (sym (ap (λ (u : Table). first_fault u ds) same) ∙ typed)

    pub equations_fault : (f : SpecFault) → IsTheFault ds (equation_phases ++ (shown_phases ++ late_phases)) f → IsTheFault ds phases f
    equations_fault f the =
        later ds Names (Types ∷ equation_phases ++ (shown_phases ++ late_phases)) f no_names
        (later ds Types (equation_phases ++ (shown_phases ++ late_phases)) f no_types the)

    module _ (equations : HaveNoFault ds equation_phases) where
      no_early : HaveNoFault ds early_phases
      no_early = (no_names, (no_types, equations))

      pub shown_fault : (f : SpecFault) → IsTheFault ds (shown_phases ++ late_phases) f → IsTheFault ds phases f
      shown_fault f the = later_all ds early_phases (shown_phases ++ late_phases) f no_early the

      module _ (shown : HaveNoFault ds shown_phases) where
        pub no_fault_before : HaveNoFault ds (early_phases ++ shown_phases)
        no_fault_before = none_both ds early_phases shown_phases no_early shown

        pub sound_record : (rules : List Rule) (spec : Spec) → HaveWritten ds → rules ≡ equations_of ds → length rules < 2 ^ 32 → length (lists (written_names.names_of ds) ds) ≤ 1048576 → IsTheSpec ds spec → HasLexemes spec → IsSound spec
        unfolding record_of
        sound_record rules spec written made few short the lexemes = subst IsSound (sym the.is.made)
            (sound ds the.is.lexemes written named (sym (ap (λ (u : Table). first_fault u ds) same) ∙ typed) (none_of (incomplete (names_of ds) ds) equations.0) (enclosed_right ds equations.1.0) the.is.patterns
            (schemes_right ds shown.0) (none_of (entries_fault ds) shown.1.1.0) (subst (λ (rs : List Rule). length rs < 2 ^ 32) made few) short (subst HasLexemes the.is.made lexemes))

-- the judgement where only the last phases can have a fault
pub late_refused : (ds : List Decl) (f : SpecFault) → HaveNoFault ds (early_phases ++ shown_phases) → IsTheFault ds late_phases f → IsTheJudgement ds (Refused f)
late_refused ds f none the = refused ds f (later_all ds (early_phases ++ shown_phases) late_phases f none the)

pub all_accepted : (ds : List Decl) (spec other : Spec) → HaveNoFault ds (early_phases ++ shown_phases) → IsTheSpec ds spec → other ≡ spec → HaveNoFault ds late_phases → IsTheJudgement ds (Accepted other)
all_accepted ds spec other none the is late = subst (λ (s : Spec). IsTheJudgement ds (Accepted s)) (sym is)
    (accepted ds spec (none_both ds (early_phases ++ shown_phases) late_phases none late) the)
