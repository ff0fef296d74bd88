-- The record of declarations without a fault is sound.
use Rattle.std.proofs.Common.{◌≡◌, ◌<◌, ◌≤◌, ◌^◌, List, [], ◌∷◌, ◌++◌, map, length, flat_map, None, refl, sym, subst, ◌∙◌, arith, append-nil}
use Rattle.std.specs.Prelude.{All}
use Rattle.std.proofs.lemmas.Grind.{flat_map-append}
use Rattle.sg_kinds.specs.Lexemes.{Lexeme}
use Rattle.sg_kinds.specs.Matches.{Matches}
use Rattle.sg_kinds.specs.Far.{HasFar}
use Rattle.sg_kinds.specs.Sound.{AreDistinct, HasShapes, HasRules, HasSchemes, HasEntries, HasLevels, IsSound}
use Rattle.sg_kinds.specs.declared.spec.LevelLine.{LevelLine}
use Rattle.sg_ast.specs.declared.name.Quoted.{Quoted}
use Rattle.sg_ast.specs.Declarations.{Decl, Precedence}
use Rattle.sg_ast.specs.FirstFault.{or_else}
use Rattle.sg_ast.specs.Written.{HaveWritten}
use Rattle.sg_ast.specs.Parts.{lexeme_text}
use Rattle.sg_ast.proofs.FirstLaws.{neither}
use Rattle.sg_names.specs.Drafted.{HasTable}
use Rattle.sg_names.specs.Names as written_names
use Rattle.sg_resolve.specs.Resolved.{resolve_fault}
use Rattle.sg_resolve.proofs.LiteralNames.{literals_at, literals_distinct}
use Rattle.sg_resolve.proofs.ShapeRows.{no_fault}
use Rattle.sg_schemes.specs.NoScheme.{IsNoScheme}
use Rattle.sg_schemes.specs.Places.{scheme_kids}
use Rattle.sg_schemes.specs.Strings.{scheme_text}
use Rattle.sg_typing.specs.Bodies.{first_mismatch}
use Rattle.sg_typing.specs.Checked.{first_fault}
use Rattle.sg_typing.proofs.ListsThere.{lists_there}
use Rattle.sg_equations.specs.Complete.{incomplete}
use Rattle.sg_equations.proofs.RulesSound.{rules_sound, written_literals}
use Rattle.sg_record.specs.Record.{levels_at, record_of}
use Rattle.sg_record.proofs.TableKept.{table_kept, names_bare}
use Rattle.sg_record.proofs.RecordSound.{no_mismatch, record_typed, record_shown, record_entered}
use Rattle.sg_record.specs.Entries.{entry_twice, entry_type}
use Rattle.sg_remote.specs.Lists.{lists}
use Rattle.sg_remote.specs.Longer.{names_of}
use Rattle.sg_remote.specs.NoEnclosing.{IsNoEnclosing}
use Rattle.sg_load.specs.FirstFault.{IsSchemesFault, entries_fault}
use Rattle.sg_load.proofs.FarSound.{far_long, handed_long, names_long, places_long, results_long, shapes_long}
use Rattle.sg_load.proofs.RecordCounts.{record_counted}
use Rattle.sg_load.proofs.RecordNamed.{record_named}
use Rattle.sg_load.specs.Patterns.{ArePatterns, AreLexemes}
use Rattle.sg_load.specs.SpecOf.{equations_of, spec_with}

-- as many patterns as lexeme phyla
as_many : (ss : List Quoted) (ps : List Lexeme) → ArePatterns ss ps → length ps ≡ length ss
as_many [] [] h = refl
as_many [] (p ∷ ps) h = absurd h
as_many (s ∷ ss) [] h = absurd h
as_many (s ∷ ss) (p ∷ ps) h = let e = as_many ss ps h.1 in omega (arith, e)

-- the literals of the record's precedence lines
literals_kept_at : (d : Decl) → flat_map (λ (l : LevelLine). l.literals) (levels_at d) ≡ literals_at d
literals_kept_at (Precedence g literals place) = append-nil (map (λ (s : Quoted). s.text) literals)
literals_kept_at d = refl

literals_kept : (ds : List Decl) → flat_map (λ (l : LevelLine). l.literals) (flat_map levels_at ds) ≡ flat_map literals_at ds
literals_kept [] = refl
literals_kept (d ∷ ds) =
    flat_map-append (λ (l : LevelLine). l.literals) (levels_at d) (flat_map levels_at ds) ∙ (λ i. literals_kept_at d i ++ literals_kept ds i)

module _ (ds : List Decl) (lexemes : List Lexeme) (written : HaveWritten ds) (rows : resolve_fault ds ≡ None) (typed : first_fault (names_of ds) ds ≡ None) (complete : incomplete (names_of ds) ds ≡ None)
    (enclosed : IsNoEnclosing (names_of ds) ds None) (patterns : AreLexemes ds lexemes) where
  table : HasTable (names_of ds) (spec_with ds lexemes)
  table = table_kept (names_of ds) ds (equations_of ds) lexemes (names_bare ds)

  fits : first_mismatch (names_of ds) ds ≡ None
  fits = no_mismatch (names_of ds) ds typed

  pub shapes : HasShapes (spec_with ds lexemes)
  unfolding record_of
  shapes = shapes_long ds (spec_with ds lexemes) rows fits table (as_many (flat_map lexeme_text ds) lexemes patterns) enclosed

  pub far : HasFar (spec_with ds lexemes)
  unfolding record_of
  far = far_long ds (spec_with ds lexemes) rows fits table (as_many (flat_map lexeme_text ds) lexemes patterns) complete refl refl

  rules : HasRules (spec_with ds lexemes)
  unfolding record_of
  rules = rules_sound (names_of ds) ds (spec_with ds lexemes) table (lists_there (names_of ds) (spec_with ds lexemes) table shapes) (places_long ds)
      (written_literals ds written) (handed_long ds (spec_with ds lexemes) rows fits table (as_many (flat_map lexeme_text ds) lexemes patterns)) refl refl fits complete

  levels : HasLevels (spec_with ds lexemes)
  unfolding record_of
  levels = subst AreDistinct (sym (literals_kept ds)) (literals_distinct ds (no_fault ds rows).duplicates)

  module _ (shown : IsSchemesFault ds None) (entered : entries_fault ds ≡ None) where
    schemes : HasSchemes (spec_with ds lexemes)
    schemes =
        let first = neither shown.missing (or_else (scheme_kids (names_of ds) ds) (or_else (scheme_text ds) None)) (sym shown.first) in
        let second = neither (scheme_kids (names_of ds) ds) (or_else (scheme_text ds) None) first.1 in
        record_shown ds (equations_of ds) lexemes written (subst (IsNoScheme (names_of ds) ds) first.0 shown.missing_is) second.0 typed shapes

    entries : HasEntries (spec_with ds lexemes)
    entries =
        let first = neither (entry_twice (names_of ds) ds) (or_else (entry_type (names_of ds) ds) None) entered in
        let second = neither (entry_type (names_of ds) ds) None first.1 in
        record_entered ds (equations_of ds) lexemes written (names_long ds rows) (results_long ds rows) first.0 second.0

    pub sound : length (equations_of ds) < 2 ^ 32 → length (lists (written_names.names_of ds) ds) ≤ 1048576 → All (λ p. Matches p [] → ⊥) lexemes → IsSound (spec_with ds lexemes)
    unfolding record_of
    sound few short some = record {
      counted = record_counted ds (equations_of ds) lexemes rows typed few short;
      names = record_named ds (equations_of ds) lexemes written rows typed;
      shapes = shapes;
      rules = rules;
      typed = record_typed ds (equations_of ds) lexemes written (names_long ds rows) (results_long ds rows) typed shapes;
      schemes = schemes;
      lexemes = some;
      entries = entries;
      levels = levels;
      far = far;
    }
