-- The shapes of a specification whose phyla have further attributes are sound where they are without these, if leaves and
-- the root have none of them and their types may be used.
use Rattle.std.proofs.Common.{◌≡◌, ◌⊎◌, inl, inr, ℕ, zero, suc, ◌<◌, ◌≤◌, true, false, not, ◌&&◌, bytes_eq, List, [], ◌∷◌, ◌++◌, length, flat_map, append-nil, Option, Some, None, option_map, unwrap_or, slice_get, refl, sym, ap, subst, ◌∙◌}
use Rattle.std.specs.Prelude.{option_and_then, IsTrue, MatchOption}
use Rattle.std.specs.List.{All}
use Rattle.std.proofs.lemmas.List.Elements.{All-append, All-weaker}
use Rattle.sg_kinds.specs.Completing.{all_made, over, one_element, completed, completing_within}
use Rattle.sg_kinds.specs.Placeholder.{placeheld, placeholder_within}
use Rattle.sg_kinds.specs.Sound.{HasShapes, IsFinite, IsList, IsPhylum, IsShaped, IsSmall, IsValue, lexeme_place}
use Rattle.sg_kinds.specs.Specification.{args_of, is_leaf_shape, is_lexical_shape}
use Rattle.sg_kinds.specs.Terms.{Term, Node, NoTerm, AndTerm}
use Rattle.sg_kinds.specs.Typing.{is_usable, whitespace}
use Rattle.sg_kinds.specs.declared.marks.Shape.{Shape}
use Rattle.sg_kinds.specs.declared.marks.Shape.TheVariants.{Truths, Numbers, Texts, Lexemes, Ordinary, Optional, Listed, OptionalListed}
use Rattle.sg_kinds.specs.declared.marks.Way.TheVariants.{Synthesized}
use Rattle.sg_kinds.specs.declared.spec.Attr.{Attr}
use Rattle.sg_kinds.specs.declared.spec.Local.{Local}
use Rattle.sg_kinds.specs.declared.spec.Operator.{Operator}
use Rattle.sg_kinds.specs.declared.spec.Phylum.{Phylum}
use Rattle.sg_kinds.specs.declared.spec.Spec.{Spec}
use Rattle.sg_kinds.proofs.Elementary.{option_map_some}
use Rattle.sg_names.specs.More.{and_attrs}
use Rattle.sg_names.specs.Names.{map_from}
use Rattle.sg_names.proofs.OpPlaces.{map_from_length}
use Rattle.sg_resolve.proofs.ShapeLists.{from_at}

-- the specification with other phyla
abbrev pub with_phyla : Spec → List Phylum → Spec
with_phyla spec phyla = record spec { phyla = phyla }

-- and with further attributes
abbrev pub more_phyla : (ℕ → List Attr) → List Phylum → List Phylum
more_phyla more phyla = map_from (and_attrs more) 0 phyla

abbrev pub and_more : Spec → List Phylum → (ℕ → List Attr) → Spec
and_more spec phyla more = with_phyla spec (more_phyla more phyla)

lexemes_same : (more : ℕ → List Attr) (k : ℕ) (xs : List Phylum) → flat_map (λ (x : Phylum). lexeme_place x.shape) (map_from (and_attrs more) k xs) ≡ flat_map (λ (x : Phylum). lexeme_place x.shape) xs
lexemes_same more k [] = refl
lexemes_same more k (x ∷ xs) = ap (λ l. lexeme_place x.shape ++ l) (lexemes_same more (suc k) xs)

module _ (spec : Spec) (phyla : List Phylum) (more : ℕ → List Attr) where
  phylum_at : (p : ℕ) → slice_get (more_phyla more phyla) p ≡ option_map (and_attrs more p) (slice_get phyla p)
  phylum_at p = from_at (and_attrs more) phyla p

  pub usable_same : (p : ℕ) → is_usable (and_more spec phyla more) p ≡ is_usable (with_phyla spec phyla) p
  usable_same p = ap (λ o. unwrap_or (option_map (λ (x : Phylum). not (is_lexical_shape x.shape && bytes_eq x.name whitespace)) o) false) (phylum_at p) ∙ by (slice_get phyla p)
    where
      by : (o : Option Phylum) → unwrap_or (option_map (λ (x : Phylum). not (is_lexical_shape x.shape && bytes_eq x.name whitespace)) (option_map (and_attrs more p) o)) false
          ≡ unwrap_or (option_map (λ (x : Phylum). not (is_lexical_shape x.shape && bytes_eq x.name whitespace)) o) false
      by None = refl
      by (Some x) = refl

  -- made terms
  over_same : (made drawn : ℕ → Option Term) → made ≡ drawn → (o : Option ℕ) → over (and_more spec phyla more) made o ≡ over (with_phyla spec phyla) drawn o
  over_same made drawn same None = refl
  over_same made drawn same (Some op) = λ i. option_map (Node op 0 false) (all_made (same i) (args_of spec.ops op))

  one_same : (made drawn : ℕ → Option Term) → made ≡ drawn → (ops : List ℕ) → one_element (and_more spec phyla more) made ops ≡ one_element (with_phyla spec phyla) drawn ops
  one_same made drawn same [] = refl
  one_same made drawn same (nil ∷ []) = refl
  one_same made drawn same (nil ∷ pair ∷ ops) = λ i.
      option_map (λ x. Node pair 0 false (AndTerm x (AndTerm (Node nil 0 false NoTerm) NoTerm))) (option_and_then (same i) (slice_get (args_of spec.ops pair) 0))

  completed_same : (made drawn : ℕ → Option Term) → made ≡ drawn → (p : ℕ) (ops : List ℕ) (s : Shape) → completed (and_more spec phyla more) made p ops s ≡ completed (with_phyla spec phyla) drawn p ops s
  completed_same made drawn same p ops Truths = refl
  completed_same made drawn same p ops Numbers = refl
  completed_same made drawn same p ops Texts = refl
  completed_same made drawn same p ops (Lexemes l) = refl
  completed_same made drawn same p ops Ordinary = over_same made drawn same (slice_get ops 0)
  completed_same made drawn same p ops Optional = over_same made drawn same (slice_get ops 0)
  completed_same made drawn same p ops Listed = one_same made drawn same ops
  completed_same made drawn same p ops OptionalListed = over_same made drawn same (slice_get ops 0)

  placeheld_same : (made drawn : ℕ → Option Term) → made ≡ drawn → (p : ℕ) (ops : List ℕ) (s : Shape) → placeheld (and_more spec phyla more) made p ops s ≡ placeheld (with_phyla spec phyla) drawn p ops s
  placeheld_same made drawn same p ops Optional = over_same made drawn same (slice_get ops 1)
  placeheld_same made drawn same p ops OptionalListed = one_same made drawn same ops
  placeheld_same made drawn same p ops s = completed_same made drawn same p ops s

  completing_same : (n p : ℕ) → completing_within (and_more spec phyla more) n p ≡ completing_within (with_phyla spec phyla) n p
  completing_same zero p = refl
  completing_same (suc n) p =
      ap (option_and_then (λ (x : Phylum). completed (and_more spec phyla more) (completing_within (and_more spec phyla more) n) p x.ops x.shape)) (phylum_at p) ∙ by (slice_get phyla p) (λ i q. completing_same n q i)
    where
      by : (o : Option Phylum) → completing_within (and_more spec phyla more) n ≡ completing_within (with_phyla spec phyla) n
          → option_and_then (λ (x : Phylum). completed (and_more spec phyla more) (completing_within (and_more spec phyla more) n) p x.ops x.shape) (option_map (and_attrs more p) o)
          ≡ option_and_then (λ (x : Phylum). completed (with_phyla spec phyla) (completing_within (with_phyla spec phyla) n) p x.ops x.shape) o
      by None same = refl
      by (Some x) same = completed_same (completing_within (and_more spec phyla more) n) (completing_within (with_phyla spec phyla) n) same p x.ops x.shape

  placeholder_same : (n p : ℕ) → placeholder_within (and_more spec phyla more) n p ≡ placeholder_within (with_phyla spec phyla) n p
  placeholder_same n p =
      ap (option_and_then (λ (x : Phylum). placeheld (and_more spec phyla more) (completing_within (and_more spec phyla more) n) p x.ops x.shape)) (phylum_at p) ∙ by (slice_get phyla p)
    where
      by : (o : Option Phylum) → option_and_then (λ (x : Phylum). placeheld (and_more spec phyla more) (completing_within (and_more spec phyla more) n) p x.ops x.shape) (option_map (and_attrs more p) o)
          ≡ option_and_then (λ (x : Phylum). placeheld (with_phyla spec phyla) (completing_within (with_phyla spec phyla) n) p x.ops x.shape) o
      by None = refl
      by (Some x) = placeheld_same (completing_within (and_more spec phyla more) n) (completing_within (with_phyla spec phyla) n) (λ i q. completing_same n q i) p x.ops x.shape

  finite_same : (p : ℕ) → IsFinite (with_phyla spec phyla) p → IsFinite (and_more spec phyla more) p
  finite_same p f = (
    subst (λ (o : Option Term). MatchOption o ⊥ IsSmall) (sym (completing_same 1024 p)) f.0,
    subst (λ (o : Option Term). MatchOption o ⊥ IsSmall) (sym (placeholder_same 1023 p)) f.1,
  )

  -- shapes
  list_same : (p : ℕ) (ops : List ℕ) → IsList (with_phyla spec phyla) p ops → IsList (and_more spec phyla more) p ops
  list_same p [] h = h
  list_same p (nil ∷ []) h = h
  list_same p (nil ∷ pair ∷ []) h = h
  list_same p (nil ∷ pair ∷ op ∷ ops) h = h

  value_same : (p : ℕ) (x : Phylum) → more p ≡ [] → IsValue p x.attrs → IsValue p (x.attrs ++ more p)
  value_same p x none h = subst (IsValue p) (sym (ap (λ (l : List Attr). x.attrs ++ l) none ∙ append-nil x.attrs)) h

  shape_same : (p : ℕ) (x : Phylum) (s : Shape) → (is_leaf_shape s ≡ true → more p ≡ []) → IsShaped (with_phyla spec phyla) p x s → IsShaped (and_more spec phyla more) p (and_attrs more p x) s
  shape_same p x Ordinary leaf h = h
  shape_same p x Optional leaf h = h
  shape_same p x Listed leaf h = list_same p x.ops h
  shape_same p x OptionalListed leaf h = list_same p x.ops h
  shape_same p x Truths leaf h = (h.0, value_same p x (leaf refl) h.1)
  shape_same p x Numbers leaf h = (h.0, value_same p x (leaf refl) h.1)
  shape_same p x Texts leaf h = (h.0, value_same p x (leaf refl) h.1)
  shape_same p x (Lexemes l) leaf h = (h.0, value_same p x (leaf refl) h.1)

  module _ (shapes : HasShapes (with_phyla spec phyla)) (leaf : (p : ℕ) (x : Phylum) → slice_get phyla p ≡ Some x → is_leaf_shape x.shape ≡ true → more p ≡ [])
      (types : (p : ℕ) (x : Phylum) → slice_get phyla p ≡ Some x → All (λ (a : Attr). IsTrue (is_usable (with_phyla spec phyla) a.of)) (more p)) (root : more spec.root ≡ []) where
    type_same : (p : ℕ) (a : Attr) → (a.of ≡ p) ⊎ IsTrue (is_usable (with_phyla spec phyla) a.of) → (a.of ≡ p) ⊎ IsTrue (is_usable (and_more spec phyla more) a.of)
    type_same p a (inl own) = inl own
    type_same p a (inr used) = inr (usable_same a.of ∙ used)

    phylum_sound : (p : ℕ) (x : Phylum) → slice_get phyla p ≡ Some x → IsPhylum (and_more spec phyla more) p (and_attrs more p x)
    phylum_sound p x at =
        let was = shapes.phyla p x at in
        record {
          base = was.base;
          shape = shape_same p x x.shape (leaf p x at) was.shape;
          ops = was.ops;
          types = All-append (λ (a : Attr). (a.of ≡ p) ⊎ IsTrue (is_usable (and_more spec phyla more) a.of)) x.attrs (more p)
              (All-weaker (λ (a : Attr). (a.of ≡ p) ⊎ IsTrue (is_usable (with_phyla spec phyla) a.of)) (λ (a : Attr). (a.of ≡ p) ⊎ IsTrue (is_usable (and_more spec phyla more) a.of)) (type_same p) x.attrs was.types)
              (All-weaker (λ (a : Attr). IsTrue (is_usable (with_phyla spec phyla) a.of)) (λ (a : Attr). (a.of ≡ p) ⊎ IsTrue (is_usable (and_more spec phyla more) a.of)) (λ a used. inr (usable_same a.of ∙ used)) (more p) (types p x at));
        }

    root_same : (o : Option Phylum) → MatchOption o ⊥ (λ x. (1 ≤ length x.ops) × All (λ (a : Attr). a.way ≡ Synthesized) x.attrs)
        → MatchOption (option_map (and_attrs more spec.root) o) ⊥ (λ x. (1 ≤ length x.ops) × All (λ (a : Attr). a.way ≡ Synthesized) x.attrs)
    root_same None h = h
    root_same (Some x) h = (h.0, subst (All (λ (a : Attr). a.way ≡ Synthesized)) (sym (ap (λ (l : List Attr). x.attrs ++ l) root ∙ append-nil x.attrs)) h.1)

    pub longer_shapes : HasShapes (and_more spec phyla more)
    longer_shapes =
        let count : length (more_phyla more phyla) ≡ length phyla = map_from_length (and_attrs more) 0 phyla in
        record {
          phyla = λ p x at. let y = option_map_some (and_attrs more p) (slice_get phyla p) x (sym (phylum_at p) ∙ at) in subst (IsPhylum (and_more spec phyla more) p) y.2 (phylum_sound p y.0 y.1);
          ops = subst (λ n. All (λ (o : Operator). o.phylum < n) spec.ops) (sym count) shapes.ops;
          args =
              All-weaker (λ (o : Operator). All (λ p. IsTrue (is_usable (with_phyla spec phyla) p)) o.args) (λ (o : Operator). All (λ p. IsTrue (is_usable (and_more spec phyla more) p)) o.args)
              (λ o h. All-weaker (λ p. IsTrue (is_usable (with_phyla spec phyla) p)) (λ p. IsTrue (is_usable (and_more spec phyla more) p)) (λ p used. usable_same p ∙ used) o.args h) spec.ops shapes.args;
          locals =
              All-weaker (λ (o : Operator). All (λ (l : Local). IsTrue (is_usable (with_phyla spec phyla) l.of)) o.locals) (λ (o : Operator). All (λ (l : Local). IsTrue (is_usable (and_more spec phyla more) l.of)) o.locals)
              (λ o h. All-weaker (λ (l : Local). IsTrue (is_usable (with_phyla spec phyla) l.of)) (λ (l : Local). IsTrue (is_usable (and_more spec phyla more) l.of)) (λ l used. usable_same l.of ∙ used) o.locals h) spec.ops shapes.locals;
          root = subst (λ (o : Option Phylum). MatchOption o ⊥ (λ x. (1 ≤ length x.ops) × All (λ (a : Attr). a.way ≡ Synthesized) x.attrs)) (sym (phylum_at spec.root)) (root_same (slice_get phyla spec.root) shapes.root);
          lexemes = lexemes_same more 0 phyla ∙ shapes.lexemes;
          finite = λ p low. finite_same p (shapes.finite p (subst (λ n. p < n) count low));
        }
