-- The record of declarations without faults is sound, as far as its declarations show it.
use Rattle.std.proofs.Common.{◌≡◌, List, Some, None, Option, refl}
use Rattle.std.specs.Prelude.{option_map}
use Rattle.std.specs.List.{All}
use Rattle.sg_kinds.specs.Lexemes.{Lexeme}
use Rattle.sg_kinds.specs.Sound.{HasEntries, HasSchemes, HasShapes, IsNamed, IsNumbered, IsTyped}
use Rattle.sg_kinds.specs.declared.fault.Position.{Position}
use Rattle.sg_kinds.specs.declared.fault.SpecFault.TheVariants.{Mismatch, ShownType}
use Rattle.sg_kinds.specs.declared.spec.Rule.{Rule}
use Rattle.sg_ast.specs.Declarations.{Decl}
use Rattle.sg_ast.specs.FirstFault.{or_else}
use Rattle.sg_ast.specs.Written.{HaveWritten}
use Rattle.sg_names.specs.declared.table.Table.{Table}
use Rattle.sg_names.specs.Drafted.{HasTable}
use Rattle.sg_names.specs.Shapes.{result_count}
use Rattle.sg_names.specs.UnknownName.{unknown_name}
use Rattle.sg_remote.specs.Longer.{names_of}
use Rattle.sg_schemes.specs.Places.{scheme_kids}
use Rattle.sg_schemes.specs.NoScheme.{IsNoScheme}
use Rattle.sg_typing.specs.Bodies.{first_mismatch}
use Rattle.sg_typing.specs.Checked.{first_fault}
use Rattle.sg_typing.specs.ShownTypes.{first_hidden}
use Rattle.sg_typing.proofs.ListsThere.{lists_there}
use Rattle.sg_record.specs.Entries.{entry_twice, entry_type}
use Rattle.sg_record.specs.Premises.{AreApart}
use Rattle.sg_record.specs.Record.{record_of}
use Rattle.sg_record.proofs.FunctionsTyped.{functions_typed, params_usable}
use Rattle.sg_record.proofs.Known.{decls_fine, decls_known}
use Rattle.sg_record.proofs.ProductionsTyped.{productions_typed, results_typed, all_results}
use Rattle.sg_record.proofs.RecordEntries.{record_entries}
use Rattle.sg_record.proofs.RecordNames.{all_named, all_numbered}
use Rattle.sg_record.proofs.RecordSchemes.{record_schemes}
use Rattle.sg_record.proofs.TableKept.{table_kept, names_bare}
use Rattle.sg_record.proofs.TransformsTyped.{transforms_typed, phyla_usable}

-- where no type has a fault, no expression or pattern has one
pub no_mismatch : (t : Table) (ds : List Decl) → first_fault t ds ≡ None → first_mismatch t ds ≡ None
no_mismatch t ds h = by (first_mismatch t ds) h
  where
    by : (o : Option Position) → or_else (option_map Mismatch o) (or_else (option_map ShownType (first_hidden t ds)) None) ≡ None → o ≡ None
    by None e = refl
    by (Some p) e = absurd (cc e)

no_hidden : (t : Table) (ds : List Decl) → first_fault t ds ≡ None → first_hidden t ds ≡ None
no_hidden t ds h = by (first_mismatch t ds) (first_hidden t ds) h
  where
    by : (m o : Option _) → or_else (option_map Mismatch m) (or_else (option_map ShownType o) None) ≡ None → o ≡ None
    by None None e = refl
    by None (Some p) e = absurd (cc e)
    by (Some p) o e = absurd (cc e)

module _ (ds : List Decl) (rules : List Rule) (lexemes : List Lexeme) (written : HaveWritten ds) where
  kept : HasTable (names_of ds) (record_of (names_of ds) ds rules lexemes)
  kept = table_kept (names_of ds) ds rules lexemes (names_bare ds)

  pub record_typed : unknown_name (names_of ds) ds ≡ None → result_count (names_of ds) ≡ None → first_fault (names_of ds) ds ≡ None → HasShapes (record_of (names_of ds) ds rules lexemes) → IsTyped (record_of (names_of ds) ds rules lexemes)
  unfolding record_of
  record_typed known results typed shapes =
      let spec = record_of (names_of ds) ds rules lexemes in
      let fine = decls_fine (names_of ds) ds known (no_mismatch (names_of ds) ds typed) written in
      let lists = lists_there (names_of ds) spec kept shapes in
      let all = all_results ds spec kept refl results written in
      record {
        functions = functions_typed ds spec kept lists refl refl fine;
        params = params_usable ds spec kept refl fine;
        transforms = transforms_typed (names_of ds) spec kept ds lists refl refl fine;
        phyla = phyla_usable (names_of ds) spec kept ds refl fine;
        productions = productions_typed ds spec kept all shapes lists refl refl fine;
        results = results_typed ds spec kept refl results fine;
      }

  pub record_shown : IsNoScheme (names_of ds) ds None → scheme_kids (names_of ds) ds ≡ None → first_fault (names_of ds) ds ≡ None → HasShapes (record_of (names_of ds) ds rules lexemes) → HasSchemes (record_of (names_of ds) ds rules lexemes)
  unfolding record_of
  record_shown none kids typed shapes = record_schemes ds (record_of (names_of ds) ds rules lexemes) kept refl written none kids (no_hidden (names_of ds) ds typed) refl

  pub record_entered : unknown_name (names_of ds) ds ≡ None → result_count (names_of ds) ≡ None → entry_twice (names_of ds) ds ≡ None → entry_type (names_of ds) ds ≡ None → HasEntries (record_of (names_of ds) ds rules lexemes)
  unfolding record_of
  record_entered known results once typed =
      let spec = record_of (names_of ds) ds rules lexemes in
      record_entries ds spec kept (all_results ds spec kept refl results written) refl (decls_known (names_of ds) ds known) once typed

  pub record_named : AreApart (names_of ds) → result_count (names_of ds) ≡ None → All (IsNamed (record_of (names_of ds) ds rules lexemes)) (record_of (names_of ds) ds rules lexemes).productions
  unfolding record_of
  record_named apart results = all_named ds (record_of (names_of ds) ds rules lexemes) kept refl results apart

  pub record_numbered : IsNumbered (record_of (names_of ds) ds rules lexemes).productions
  unfolding record_of
  record_numbered = all_numbered ds (record_of (names_of ds) ds rules lexemes).productions refl written
