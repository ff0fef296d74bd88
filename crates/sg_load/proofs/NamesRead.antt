-- The operators of an accepted specification have names that are not reserved, and its names are distinct.
use Rattle.std.proofs.Common.{◌≡◌, ℕ, suc, List, [], ◌∷◌, ◌++◌, map, flat_map, Option, Some, None, Ok, Err, Result, refl, sym, subst}
use Rattle.std.specs.Prelude.{All}
use Rattle.std.specs.List.{AllByRecursion, join_by}
use Rattle.std.proofs.lemmas.List.Elements.{All-from_recursion}
use Rattle.sg_text.specs.declared.symbols.Symbol.TheVariants.{Semicolon}
use Rattle.sg_kinds.specs.Sound.{HasNames}
use Rattle.sg_kinds.specs.Values.{Bytes}
use Rattle.sg_kinds.specs.declared.fault.SpecFault.{SpecFault}
use Rattle.sg_kinds.specs.declared.spec.Operator.{Operator}
use Rattle.sg_kinds.specs.declared.spec.Spec.{Spec}
use Rattle.sg_ast.specs.declared.decl.Alt.{Alt}
use Rattle.sg_ast.specs.declared.name.Name.{Name}
use Rattle.sg_ast.specs.Declarations.{Decl, Operators}
use Rattle.sg_ast.specs.Spelling.{Mark, sign, bar, spell_alt, spell}
use Rattle.sg_ast.specs.Spells.{EachSpells}
use Rattle.sg_names.specs.declared.heads.Head.{Head}
use Rattle.sg_names.specs.Names.{map_from, operator, operators_at, operators_in, phyla_in}
use Rattle.sg_names.specs.Names as table
use Rattle.sg_names.specs.declared.table.Table.{Table}
use Rattle.sg_record.specs.Record.{record_of}
use Rattle.sg_remote.specs.Longer.{names_of}
use Rattle.sg_resolve.specs.Resolved.{resolve_fault}
use Rattle.sg_typing.specs.Checked.{first_fault}
use Rattle.sg_resolve.proofs.ShapeLists.{each_append, each_split}
use Rattle.sg_load.specs.FreeNames.{IsFreeName, operator_names}
use Rattle.sg_load.specs.SpecOf.{equations_of, spec_with}
use Rattle.sg_load.specs.Trees.{trees_in}
use Rattle.sg_load.specs.Verdict.{Accepted, IsOfTrees, IsVerdict}
use Rattle.sg_load.proofs.WrittenMarks.{HaveForms, AreFormed, taken_formed}
use Rattle.sg_load.proofs.WrittenTrees.{parts}
use Rattle.sg_load.proofs.WrittenLaws.{trees_spelled, read_written}
use Rattle.sg_load.proofs.FarAttrs.{long_is}
use Rattle.sg_load.proofs.RecordNamed.{record_named}

-- the names of alternatives, which stand before `(`
abbrev names : List Alt → List Bytes
names alts = map (λ (a : Alt). a.name.text) alts

more_named : (alts : List Alt) → AreFormed (flat_map (λ (a : Alt). bar ++ spell_alt a) alts) → AllByRecursion IsFreeName (names alts)
more_named [] h = tt
more_named (a ∷ alts) h =
    let s = parts (spell_alt a) (flat_map (λ (a : Alt). bar ++ spell_alt a) alts) h.1 in (s.0.0, more_named alts s.1)

alts_named : (alts : List Alt) → AreFormed (join_by spell_alt bar alts) → AllByRecursion IsFreeName (names alts)
alts_named [] h = tt
alts_named (a ∷ alts) h =
    let s = parts (spell_alt a) (flat_map (λ (a : Alt). bar ++ spell_alt a) alts) h in (s.0.0, more_named alts s.1)

decl_named : (d : Decl) → AreFormed (spell d) → AllByRecursion IsFreeName (operator_names d)
decl_named (Operators n alts) h = alts_named alts (parts (join_by spell_alt bar alts) (sign Semicolon ∷ []) h.1.1).0
decl_named d h = tt

spelled_named : (mss : List (List Mark)) (ds : List Decl) → EachSpells mss ds → AllByRecursion HaveForms mss → AllByRecursion IsFreeName (flat_map operator_names ds)
spelled_named [] [] spells h = tt
spelled_named [] (d ∷ ds) spells h = absurd spells
spelled_named (ms ∷ mss) [] spells h = absurd spells
spelled_named (ms ∷ mss) (d ∷ ds) spells h =
    each_append IsFreeName (operator_names d) (flat_map operator_names ds) (decl_named d (taken_formed spells.0.fits h.0)) (spelled_named mss ds spells.1 h.1)

each_named : (bytes : Bytes) (ds : List Decl) → trees_in bytes ≡ Ok ds → AllByRecursion IsFreeName (flat_map operator_names ds)
each_named bytes ds e = let read = trees_spelled bytes ds e in spelled_named read.marks ds read.spells read.formed

pub read_named : (bytes : Bytes) (ds : List Decl) → trees_in bytes ≡ Ok ds → All IsFreeName (flat_map operator_names ds)
read_named bytes ds e = All-from_recursion IsFreeName (flat_map operator_names ds) (each_named bytes ds e)

-- an operator with such a name
abbrev IsNamed : Operator → Type 0
IsNamed o = IsFreeName o.name

-- the operators of declarations
made_named : (phyla : List Head) (n : Name) (alts : List Alt) → AllByRecursion IsFreeName (names alts) → AllByRecursion IsNamed (map (operator phyla n) alts)
made_named phyla n [] h = tt
made_named phyla n (a ∷ alts) h = (h.0, made_named phyla n alts h.1)

at_named : (phyla : List Head) (d : Decl) → AllByRecursion IsFreeName (operator_names d) → AllByRecursion IsNamed (operators_at phyla d)
at_named phyla (Operators n alts) h = made_named phyla n alts h
at_named phyla d h = tt

in_named : (phyla : List Head) (ds : List Decl) → AllByRecursion IsFreeName (flat_map operator_names ds) → AllByRecursion IsNamed (operators_in phyla ds)
in_named phyla [] h = tt
in_named phyla (d ∷ ds) h =
    let s = each_split IsFreeName (operator_names d) (flat_map operator_names ds) h in
    each_append IsNamed (operators_at phyla d) (operators_in phyla ds) (at_named phyla d s.0) (in_named phyla ds s.1)

-- with other locals and other schemes they have the same names
kept_named : (f : ℕ → Operator → Operator) → ((k : ℕ) (o : Operator) → IsNamed o → IsNamed (f k o)) → (k : ℕ) (ops : List Operator) → AllByRecursion IsNamed ops → AllByRecursion IsNamed (map_from f k ops)
kept_named f keeps k [] h = tt
kept_named f keeps k (o ∷ ops) h = (keeps k o h.0, kept_named f keeps (suc k) ops h.1)

written_named : (ds : List Decl) → AllByRecursion IsFreeName (flat_map operator_names ds) → AllByRecursion IsNamed (table.names_of ds).ops
unfolding table.names_of
written_named ds h = kept_named _ (λ k o is. is) 0 (operators_in (phyla_in ds) ds) (in_named (phyla_in ds) ds h)

table_named : (ds : List Decl) → AllByRecursion IsFreeName (flat_map operator_names ds) → AllByRecursion IsNamed (names_of ds).ops
table_named ds h = subst (λ (t : Table). AllByRecursion IsNamed t.ops) (sym (long_is ds)) (written_named ds h)

spec_named : (ds : List Decl) (lexemes : _) → AllByRecursion IsFreeName (flat_map operator_names ds) → AllByRecursion IsNamed (spec_with ds lexemes).ops
unfolding record_of
spec_named ds lexemes h = kept_named _ (λ k o is. is) 0 (names_of ds).ops (table_named ds h)

judged_named : (bytes : Bytes) (r : Result (List Decl) SpecFault) (spec : Spec) → trees_in bytes ≡ r → IsOfTrees r (Accepted spec) → All IsNamed spec.ops
judged_named bytes (Ok ds) spec is v =
    subst (λ (s : Spec). All IsNamed s.ops) (sym v.1.made)
    (All-from_recursion IsNamed (spec_with ds v.1.lexemes).ops (spec_named ds v.1.lexemes (each_named bytes ds is)))
judged_named bytes (Err f) spec is v = absurd (cc)

pub accepted_named : (bytes : Bytes) (spec : Spec) → IsVerdict bytes (Accepted spec) → All (λ (o : Operator). IsFreeName o.name) spec.ops
accepted_named bytes spec v = judged_named bytes (trees_in bytes) spec refl v

-- its names, by the phase of names alone
no_some : {A : Type 0} (o : Option A) → ((x : A) → o ≡ Some x → ⊥) → o ≡ None
no_some None none = refl
no_some (Some x) none = absurd (none x refl)

judged_distinct : (bytes : Bytes) (r : Result (List Decl) SpecFault) (spec : Spec) → trees_in bytes ≡ r → IsOfTrees r (Accepted spec) → HasNames spec
judged_distinct bytes (Ok ds) spec is v =
    subst HasNames (sym v.1.made)
    (record_named ds (equations_of ds) v.1.lexemes (read_written bytes ds is) (no_some (resolve_fault ds) v.0.0) (no_some (first_fault (names_of ds) ds) v.0.1.0))
judged_distinct bytes (Err f) spec is v = absurd (cc)

pub accepted_distinct : (bytes : Bytes) (spec : Spec) → IsVerdict bytes (Accepted spec) → HasNames spec
accepted_distinct bytes spec v = judged_distinct bytes (trees_in bytes) spec refl v
