-- Where names and shapes have no fault, the shapes of a specification with the table's names are sound.
use Rattle.std.proofs.Common.{◌≡◌, ◌⊎◌, inl, inr, ℕ, suc, ◌<◌, ◌≤◌, true, false, not, nat_eq, List, [], ◌∷◌, length, flat_map, Option, Some, None, MatchOption, slice_get, option_map, unwrap_or, refl, sym, ap, subst, ◌∙◌, arith}
use Rattle.std.specs.Prelude.{option_and_then, IsTrue}
use Rattle.std.specs.List.{All, AllByRecursion, filter}
use Rattle.std.proofs.lemmas.Bool.{cases_lt}
use Rattle.std.proofs.lemmas.List.Elements.{All-from_recursion}
use Rattle.std.proofs.lemmas.Option.{slice_get-map, slice_get_within}
use Rattle.sg_kinds.specs.declared.spec.Spec.{Spec}
use Rattle.sg_kinds.specs.declared.spec.Attr.{Attr}
use Rattle.sg_kinds.specs.declared.spec.Local.{Local}
use Rattle.sg_kinds.specs.declared.spec.Operator.{Operator}
use Rattle.sg_kinds.specs.declared.spec.Phylum.{Phylum}
use Rattle.sg_kinds.specs.declared.marks.Shape.{Shape}
use Rattle.sg_kinds.specs.declared.marks.Shape.TheVariants.{Truths, Numbers, Texts, Lexemes, Ordinary, Optional, Listed, OptionalListed}
use Rattle.sg_kinds.specs.declared.marks.Way.TheVariants.{Synthesized}
use Rattle.sg_kinds.specs.declared.fault.Position.{Position}
use Rattle.sg_kinds.specs.declared.fault.SpecFault.TheVariants as fault
use Rattle.sg_kinds.specs.Specification.{phylum_of, is_leaf_shape}
use Rattle.sg_kinds.specs.Instances.{below}
use Rattle.sg_kinds.specs.Typing.{is_usable}
use Rattle.sg_kinds.specs.Completing.{completed, completing_within}
use Rattle.sg_kinds.specs.Sound.{IsShaped, IsList, IsPhylum, IsSmall, IsFinite, operators_of, is_operator_of, lexeme_place, HasShapes}
use Rattle.sg_kinds.proofs.Elementary.{slice_get-there}
use Rattle.sg_ast.specs.declared.name.Name.{Name}
use Rattle.sg_ast.specs.Declarations.{Decl}
use Rattle.sg_names.specs.declared.heads.Head.{Head}
use Rattle.sg_names.specs.declared.table.Table.{Table}
use Rattle.sg_names.specs.Heads.{number_in}
use Rattle.sg_names.specs.Drafted.{drafted, without_schemes, HasTable}
use Rattle.sg_names.specs.Names.{phyla_in, with_local, names_of}
use Rattle.sg_names.specs.Shapes.{root_count, list_shape, optional_shape, root_inherits}
use Rattle.sg_names.specs.UnknownName.{unknown_name}
use Rattle.sg_names.proofs.DraftedLaws.{args_kept, phylum_kept, ops_count, finite_kept}
use Rattle.sg_names.proofs.OpPlaces.{map_from_length}
use Rattle.sg_shapes.specs.Unfinished.{is_finished, unfinished}
use Rattle.sg_shapes.proofs.Finds.{found_is}
use Rattle.sg_shapes.proofs.Finished.{all_finite}
use Rattle.sg_counts.specs.Duplicates.{duplicate}
use Rattle.sg_resolve.specs.Resolved.{no_completion_at, no_completion, resolve_fault}
use Rattle.sg_resolve.specs.ShapeLexemes.{lexeme_count}
use Rattle.sg_resolve.proofs.Counting.{all_seen}
use Rattle.sg_resolve.proofs.ShapeLists.{each_implies, each_always, from_at}
use Rattle.sg_resolve.proofs.ShapeApart.{AreNew, new_phyla}
use Rattle.sg_resolve.proofs.ShapeTable.{plain_ops, own_ops, own_locals, phylum_made, ops_are, places_are, phyla_count, phylum_is, phylum_there, each_op}
use Rattle.sg_resolve.proofs.ShapeKnown.{IsKnown, IsUsed, each_known, used_usable}
use Rattle.sg_resolve.proofs.ShapeForms.{based, listings_fit, shaped}
use Rattle.sg_resolve.proofs.ShapeOps.{base_at, leaf_without_operators, owners_there, own_ops_are}
use Rattle.sg_resolve.proofs.ShapeLexemes.{lexemes_placed}
use Rattle.sg_resolve.proofs.ShapeAttrs.{types_good, locals_good, args_good}
use Rattle.sg_resolve.proofs.ShapeRoot.{IsRoot, root_found}
use Rattle.sg_resolve.proofs.ShapeRows.{no_fault}

-- where completions have no fault, no phylum is unfinished
place_there : (ds : List Decl) (p : ℕ) (x : Phylum) → slice_get (names_of ds).phyla p ≡ Some x → (place : Position) × (slice_get (names_of ds).phylum_places p ≡ Some place)
place_there ds p x e =
    let m = phylum_is ds p x e in
    (m.0.place, ap (λ (l : List Position). slice_get l p) (places_are ds) ∙ slice_get-map (λ (h : Head). h.place) (phyla_in ds) p ∙ ap (option_map (λ (h : Head). h.place)) m.1)

finished_by : (ds : List Decl) (o : Option ℕ) → unfinished (names_of ds) ≡ o → option_and_then (no_completion_at (names_of ds)) o ≡ None → unfinished (names_of ds) ≡ None
finished_by ds None e none = e
finished_by ds (Some p) e none =
    let found = found_is (λ q. not (is_finished (drafted (names_of ds)) q)) (length (names_of ds).phyla) p e in
    let x = slice_get-there (names_of ds).phyla p found.1 in
    let place = place_there ds p x.0 x.1 in
    let some : no_completion_at (names_of ds) p ≡ Some (fault.NoCompletion place.0 x.0.name) =
    ap (λ o. option_and_then (λ (q : Position). option_map (λ (y : Phylum). fault.NoCompletion q y.name) (slice_get (names_of ds).phyla p)) o) place.1
    ∙ ap (λ o. option_map (λ (y : Phylum). fault.NoCompletion place.0 y.name) o) x.1 in
    absurd (cc (none, some))

pub all_finished : (ds : List Decl) → no_completion (names_of ds) ≡ None → unfinished (names_of ds) ≡ None
all_finished ds e = finished_by ds (unfinished (names_of ds)) refl e

-- an ordinary phylum has a completing term only where it has an operator
no_term : (spec : Spec) (depth p : ℕ) (x : Phylum) → slice_get spec.phyla p ≡ Some x → x.shape ≡ Ordinary → x.ops ≡ [] → completing_within spec (suc depth) p ≡ None
no_term spec depth p x here shape none =
    ap (λ o. option_and_then (λ (x : Phylum). completed spec (completing_within spec depth) p x.ops x.shape) o) here
    ∙ ap (λ s. completed spec (completing_within spec depth) p x.ops s) shape
    ∙ ap (λ (l : List ℕ). completed spec (completing_within spec depth) p l Ordinary) none

some_op : (spec : Spec) (p : ℕ) (x : Phylum) → slice_get spec.phyla p ≡ Some x → x.shape ≡ Ordinary → IsFinite spec p → (ops : List ℕ) → x.ops ≡ ops → 1 ≤ length ops
some_op spec p x here shape finite [] e = absurd (subst (λ o. MatchOption o ⊥ IsSmall) (no_term spec 1023 p x here shape e) finite.0)
some_op spec p x here shape finite (op ∷ ops) e = omega arith

-- a phylum that is no leaf has an operator
shaped_op : (spec : Spec) (p : ℕ) (x : Phylum) (s : Shape) → is_leaf_shape s ≡ false → IsShaped spec p x s → 1 ≤ length x.ops
shaped_op spec p x Truths e h = absurd (cc e)
shaped_op spec p x Numbers e h = absurd (cc e)
shaped_op spec p x Texts e h = absurd (cc e)
shaped_op spec p x (Lexemes l) e h = absurd (cc e)
shaped_op spec p x Ordinary e h = h
shaped_op spec p x Optional e h = let two : 2 ≤ length x.ops = h.0 in omega (arith, two)
shaped_op spec p x Listed e h = pair_op x.ops h
  where
    pair_op : (ops : List ℕ) → IsList spec p ops → 1 ≤ length ops
    pair_op [] h = absurd h
    pair_op (nil ∷ ops) h = omega arith
shaped_op spec p x OptionalListed e h = pair_op x.ops h
  where
    pair_op : (ops : List ℕ) → IsList spec p ops → 1 ≤ length ops
    pair_op [] h = absurd h
    pair_op (nil ∷ ops) h = omega arith

-- a name's number may be used
abbrev IsGood : Spec → ℕ → Type 0
IsGood spec p = is_usable spec p ≡ true

-- an operator of the table is one of the specification but for its schemes
kept_ops : (t : Table) (spec : Spec) → HasTable t spec → (P : Operator → Type 0) → AllByRecursion P t.ops → AllByRecursion (λ o. P (without_schemes o)) spec.ops
kept_ops t spec h P a = all_seen P without_schemes spec.ops (subst (AllByRecursion P) (sym h.ops) a)

phylum_plain : (ds : List Decl) (op : ℕ) → phylum_of (names_of ds).ops op ≡ phylum_of (plain_ops ds) op
phylum_plain ds op = ap (λ (l : List Operator). phylum_of l op) (ops_are ds) ∙ ap (option_map (λ (o : Operator). o.phylum)) (from_at (with_local (own_locals ds)) (plain_ops ds) op) ∙ by (slice_get (plain_ops ds) op)
  where
    by : (o : Option Operator) → option_map (λ (o : Operator). o.phylum) (option_map (with_local (own_locals ds) op) o) ≡ option_map (λ (o : Operator). o.phylum) o
    by None = refl
    by (Some o) = refl

module _ (ds : List Decl) (spec : Spec) (table : HasTable (names_of ds) spec) (new : AreNew ds) (known : AllByRecursion (IsKnown (names_of ds)) ds)
    (lists : list_shape (names_of ds) ds ≡ None) (options : optional_shape (names_of ds) ds ≡ None) (finished : no_completion (names_of ds) ≡ None) where
  used : (n : Name) → IsUsed (names_of ds) n → IsGood spec (number_in (phyla_in ds) n.text)
  used n u = used_usable ds spec table.phyla n u

  count : length spec.phyla ≡ length (phyla_in ds)
  count = ap (λ (l : List Phylum). length l) table.phyla ∙ phyla_count ds

  -- the made terms of each phylum are finite and small
  finite : (p : ℕ) → p < length spec.phyla → IsFinite spec p
  finite p low =
      let low' : p < length (names_of ds).phyla = subst (λ (l : List Phylum). p < length l) table.phyla low in
      finite_kept (names_of ds) spec table p (all_finite (names_of ds) (all_finished ds finished) p low')

  -- the numbers of a phylum's operators
  ops_in_order : (p : ℕ) → own_ops ds p ≡ operators_of spec p
  ops_in_order p =
      own_ops_are ds p (is_operator_of spec p) (λ op. ap (λ o. unwrap_or (option_map (nat_eq p) o) false) (phylum_kept (names_of ds) spec table op ∙ phylum_plain ds op))
      ∙ ap (λ n. filter (is_operator_of spec p) (below n)) (sym (ops_count (names_of ds) spec table ∙ ap (λ (l : List Operator). length l) (ops_are ds) ∙ map_from_length (with_local (own_locals ds)) 0 (plain_ops ds)))

  -- each phylum, from its first definition
  phylum_sound : (p : ℕ) (h : Head) → slice_get (phyla_in ds) p ≡ Some h → IsPhylum spec p (phylum_made ds p h)
  phylum_sound p h there =
      let here : slice_get (names_of ds).phyla p ≡ Some (phylum_made ds p h) = phylum_there ds p h there in
      let here' : slice_get spec.phyla p ≡ Some (phylum_made ds p h) = ap (λ (l : List Phylum). slice_get l p) table.phyla ∙ here in
      let low : p < length spec.phyla = slice_get_within spec.phyla p (phylum_made ds p h) here' in
      record {
        base = based ds p h (λ lexical. past p h there lexical);
        shape = shaped spec (names_of ds) (args_kept (names_of ds) spec table) ds p h here (listings_fit ds lists options p) (leaf_without_operators ds new p h there)
            (λ ordinary. some_op spec p (phylum_made ds p h) here' ordinary (finite p low) (own_ops ds p) refl);
        ops = ops_in_order p;
        types = All-from_recursion (λ (a : Attr). (a.of ≡ p) ⊎ IsTrue (is_usable spec a.of)) (phylum_made ds p h).attrs (types_good ds (IsGood spec) used known p h);
      }
    where
      past : (p : ℕ) (h : Head) → slice_get (phyla_in ds) p ≡ Some h → h.lexical ≡ true → 2 < p
      past p h there lexical = by (cases_lt p 3)
        where
          by : (p < 3) ⊎ (3 ≤ p) → 2 < p
          by (inl low) = let plain : h.lexical ≡ false = (base_at ds p h low there).1 in absurd (cc (lexical, plain))
          by (inr high) = omega arith

  phyla_sound : (p : ℕ) (x : Phylum) → slice_get spec.phyla p ≡ Some x → IsPhylum spec p x
  phyla_sound p x e =
      let m = phylum_is ds p x (ap (λ (l : List Phylum). slice_get l p) (sym table.phyla) ∙ e) in
      subst (IsPhylum spec p) m.2 (phylum_sound p m.0 m.1)

  -- the root
  root_sound : IsRoot ds → MatchOption (slice_get spec.phyla spec.root) ⊥ (λ x. (1 ≤ length x.ops) × All (λ (a : Attr). a.way ≡ Synthesized) x.attrs)
  root_sound r =
      let p = (names_of ds).root in
      let here : slice_get spec.phyla spec.root ≡ Some (phylum_made ds p r.head) =
      ap (slice_get spec.phyla) table.root ∙ ap (λ (l : List Phylum). slice_get l p) table.phyla ∙ phylum_there ds p r.head r.there in
      subst (λ (o : Option Phylum). MatchOption o ⊥ (λ x. (1 ≤ length x.ops) × All (λ (a : Attr). a.way ≡ Synthesized) x.attrs)) (sym here) (
        shaped_op spec p (phylum_made ds p r.head) (phylum_made ds p r.head).shape r.plain (phylum_sound p r.head r.there).shape,
        All-from_recursion (λ (a : Attr). a.way ≡ Synthesized) (phylum_made ds p r.head).attrs r.ways,
      )

  shapes_from : IsRoot ds → length spec.lexemes ≡ lexeme_count ds → HasShapes spec
  shapes_from root lexemes = record {
    phyla = phyla_sound;
    ops = All-from_recursion (λ (o : Operator). o.phylum < length spec.phyla) spec.ops
        (kept_ops (names_of ds) spec table (λ (o : Operator). o.phylum < length spec.phyla)
        (each_op (λ (o : Operator). o.phylum < length spec.phyla) ds
        (each_implies (λ (o : Operator). o.phylum < length (phyla_in ds)) (λ (o : Operator). (k : ℕ) → o.phylum < length spec.phyla) (λ o low k. omega (arith, low, count)) (plain_ops ds) (owners_there ds))));
    args = All-from_recursion (λ (o : Operator). All (λ p. IsTrue (is_usable spec p)) o.args) spec.ops
        (kept_ops (names_of ds) spec table (λ (o : Operator). All (λ p. IsTrue (is_usable spec p)) o.args)
        (each_op (λ (o : Operator). All (λ p. IsTrue (is_usable spec p)) o.args) ds
        (each_implies (λ (o : Operator). AllByRecursion (IsGood spec) o.args) (λ (o : Operator). (k : ℕ) → All (λ p. IsTrue (is_usable spec p)) o.args) (λ o good k. All-from_recursion (IsGood spec) o.args good) (plain_ops ds)
        (args_good ds (IsGood spec) used known))));
    locals = All-from_recursion (λ (o : Operator). All (λ (l : Local). IsTrue (is_usable spec l.of)) o.locals) spec.ops
        (kept_ops (names_of ds) spec table (λ (o : Operator). All (λ (l : Local). IsTrue (is_usable spec l.of)) o.locals)
        (each_op (λ (o : Operator). All (λ (l : Local). IsTrue (is_usable spec l.of)) o.locals) ds
        (each_always (λ (o : Operator). (k : ℕ) → All (λ (l : Local). IsTrue (is_usable spec l.of)) (own_locals ds k)) (λ o k. All-from_recursion (λ (l : Local). IsGood spec l.of) (own_locals ds k) (locals_good ds (IsGood spec) used known k)) (plain_ops ds))));
    root = root_sound root;
    lexemes = ap (λ (l : List Phylum). flat_map (λ (x : Phylum). lexeme_place x.shape) l) table.phyla ∙ lexemes_placed ds new ∙ ap below (sym lexemes);
    finite = finite;
  }

-- where no row has a fault, the shapes are sound
pub shapes_by_rows : (ds : List Decl) (spec : Spec) → HasTable (names_of ds) spec → length spec.lexemes ≡ lexeme_count ds
    → duplicate ds ≡ None → unknown_name (names_of ds) ds ≡ None → root_count ds ≡ None → list_shape (names_of ds) ds ≡ None → optional_shape (names_of ds) ds ≡ None
    → no_completion (names_of ds) ≡ None → root_inherits (names_of ds) ds ≡ None → HasShapes spec
shapes_by_rows ds spec table lexemes duplicates unknown roots lists options finished inherits =
    let known = each_known (names_of ds) ds unknown in
    shapes_from ds spec table (new_phyla ds duplicates) known lists options finished (root_found ds known roots inherits) lexemes

pub shapes_sound : (ds : List Decl) (spec : Spec) → resolve_fault ds ≡ None → HasTable (names_of ds) spec → length spec.lexemes ≡ lexeme_count ds → HasShapes spec
shapes_sound ds spec e table lexemes =
    let n = no_fault ds e in
    shapes_by_rows ds spec table lexemes n.duplicates n.unknown n.roots n.lists n.options n.completions n.inherits
