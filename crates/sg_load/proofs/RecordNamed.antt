-- The names of the record of declarations.
use Rattle.std.proofs.Common.{◌≡◌, List, flat_map, map, filter, take, None, sym, ap, subst, ◌∙◌}
use Rattle.std.specs.List.{AllByRecursion}
use Rattle.std.proofs.lemmas.List.Elements.{All-from_recursion}
use Rattle.sg_kinds.specs.Far.{is_written}
use Rattle.sg_kinds.specs.Lexemes.{Lexeme}
use Rattle.sg_kinds.specs.Sound.{AreDistinct, HasNames}
use Rattle.sg_kinds.specs.declared.spec.Attr.{Attr}
use Rattle.sg_kinds.specs.declared.spec.Phylum.{Phylum}
use Rattle.sg_kinds.specs.declared.spec.Rule.{Rule}
use Rattle.sg_ast.specs.Declarations.{Decl}
use Rattle.sg_ast.specs.Written.{HaveWritten}
use Rattle.sg_counts.specs.Limits.{views_in}
use Rattle.sg_counts.proofs.Distinct.{different_distinct}
use Rattle.sg_names.specs.Drafted.{HasTable}
use Rattle.sg_names.specs.declared.table.Table.{Table}
use Rattle.sg_resolve.specs.Resolved.{resolve_fault}
use Rattle.sg_resolve.proofs.ShapeRows.{no_fault}
use Rattle.sg_resolve.proofs.SpecNames.{own_names}
use Rattle.sg_typing.specs.Checked.{first_fault}
use Rattle.sg_record.specs.Record.{record_of}
use Rattle.sg_record.proofs.RecordSound.{no_mismatch, record_named as nonterminals_named, record_numbered as nonterminals_numbered}
use Rattle.sg_record.proofs.TableKept.{table_kept, names_bare}
use Rattle.sg_remote.specs.Longer.{names_of}
use Rattle.sg_views.specs.Views.{views_of}
use Rattle.sg_load.proofs.FarAttrs.{far_attrs, long, long_is, short}
use Rattle.sg_load.proofs.FarCounts.{all_names_same, attrs_distinct, names_same}
use Rattle.sg_load.proofs.FarSound.{legal_long, results_long, written_table}
use Rattle.sg_load.proofs.LongerShapes.{with_phyla}
use Rattle.sg_load.proofs.RecordApart.{record_apart}

-- those of declarations without a fault of names and types
pub record_named : (ds : List Decl) (rules : List Rule) (lexemes : List Lexeme) → HaveWritten ds → resolve_fault ds ≡ None → first_fault (names_of ds) ds ≡ None → HasNames (record_of (names_of ds) ds rules lexemes)
unfolding record_of views_of
record_named ds rules lexemes written rows typed =
    let none = no_fault ds rows in
    let spec = record_of (names_of ds) ds rules lexemes in
    let table : HasTable (names_of ds) spec = table_kept (names_of ds) ds rules lexemes (names_bare ds) in
    let has : HasTable (long ds) spec = subst (λ (t : Table). HasTable t spec) (long_is ds) table in
    let own = own_names ds (with_phyla spec (short ds).phyla) none.duplicates (written_table ds spec has) in
    let legal = legal_long ds rows (no_mismatch (names_of ds) ds typed) in
    record {
      base = ap (λ (xs : List Phylum). map (λ (x : Phylum). x.name) (take 3 xs)) has.phyla ∙ names_same (far_attrs ds) 0 3 (short ds).phyla ∙ own.base;
      phyla = subst AreDistinct (sym (ap (λ (xs : List Phylum). map (λ (x : Phylum). x.name) xs) has.phyla ∙ all_names_same (far_attrs ds) 0 (short ds).phyla)) own.phyla;
      nonterminals = nonterminals_named ds rules lexemes written (record_apart ds none.duplicates) (results_long ds rows);
      numbered = nonterminals_numbered ds rules lexemes written;
      callables = own.callables;
      attrs = All-from_recursion (λ (x : Phylum). AreDistinct (map (λ (a : Attr). a.name) (filter is_written x.attrs))) spec.phyla
          (subst (AllByRecursion (λ (x : Phylum). AreDistinct (map (λ (a : Attr). a.name) (filter is_written x.attrs)))) (sym has.phyla) (attrs_distinct ds legal none.duplicates));
      locals = own.locals;
      views = different_distinct (flat_map views_in ds);
    }
