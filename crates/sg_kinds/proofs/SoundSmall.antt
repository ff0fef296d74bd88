-- A language with one operator below its top is sound, so soundness asks nothing impossible.
use Rattle.std.specs.Prelude.{◌≡◌, ◌≢◌, ◌⊎◌, ◌++◌, map, filter, count_by, MatchOption, refl, ℕ, zero, suc, ◌+◌, ◌<◌, ◌≤◌, pos, true, false, not, List, [], ◌∷◌, length, All, Some, slice_get, IsTrue, bytes_eq}
use Rattle.std.proofs.Common.{arith, inl, inr}
use Rattle.std.proofs.lemmas.Slice.Eq.{bytes_eq-Decides}
use Rattle.sg_kinds.specs.Values.{Bytes, Number}
use Rattle.sg_kinds.specs.Specification.{Spec, Phylum, Attr, Local, Operator, Scheme, attrs_of, Rule, Function, Transform, Production, Entry}
use Rattle.sg_kinds.specs.Expressions.{Constant}
use Rattle.sg_kinds.specs.declared.spec.Item.TheVariants.{Child, Writes}
use Rattle.sg_kinds.specs.declared.spec.Piece.TheVariants.{Written}
use Rattle.sg_kinds.specs.Sound.{value_name, IsPhylum, HasShapes, HasNames, HasRules, IsTyped, HasSchemes, IsScheme, AreCounted, IsSound, IsFinite, IsNamed, AreDistinct, IsItem, builtin_names, is_owed, is_rule_typed, symbol_types, result_type}
use Rattle.sg_kinds.specs.Far.{is_far, is_written, HasFar}
use Rattle.sg_kinds.specs.InView.{schemes_in_view}
use Rattle.sg_kinds.specs.Typing.{is_usable, is_typed, is_accepted, bound_types}
use Rattle.sg_kinds.specs.Matches.{Matches}
use Rattle.sg_kinds.specs.Instances.{defines}
use Rattle.sg_kinds.specs.declared.marks.Shape.TheVariants.{Truths, Numbers, Texts, Ordinary}
use Rattle.sg_kinds.specs.declared.marks.Way.TheVariants.{Synthesized}
use Rattle.sg_kinds.specs.declared.marks.ChildPlace.TheVariants.{Resting}
use Rattle.sg_kinds.proofs.Each.{Each, EachPair, all_of, pairs_of}
use Rattle.sg_kinds.proofs.Languages.{rule, at}

abbrev value : ℕ → Attr
value p = record { name = value_name; way = Synthesized; of = p; far = [] }

abbrev small : Spec
small = record {
  phyla = record { name = 66 ∷ 79 ∷ 79 ∷ 76 ∷ []; shape = Truths; ops = []; attrs = value 0 ∷ [] }
      ∷ record { name = 73 ∷ 78 ∷ 84 ∷ []; shape = Numbers; ops = []; attrs = value 1 ∷ [] }
      ∷ record { name = 83 ∷ 84 ∷ 82 ∷ []; shape = Texts; ops = []; attrs = value 2 ∷ [] }
      ∷ record { name = 99 ∷ []; shape = Ordinary; ops = 0 ∷ []; attrs = [] }
      ∷ record { name = 101 ∷ []; shape = Ordinary; ops = 1 ∷ []; attrs = value 1 ∷ [] } ∷ [];
  ops = record { name = 67 ∷ []; phylum = 3; args = 4 ∷ []; locals = []; schemes = record { rests = true; editable = false; items = Child Resting ∷ [] } ∷ [] }
      ∷ record { name = 78 ∷ []; phylum = 4; args = []; locals = []; schemes = record { rests = true; editable = true; items = Writes (Written (101 ∷ []) ∷ []) ∷ [] } ∷ [] } ∷ [];
  exprs = Constant (Number (pos 0)) ∷ [];
  rules = rule 1 (at 0 0) [] 0 ∷ [];
  functions = [];
  transforms = [];
  lexemes = [];
  productions = [];
  entries = [];
  levels = [];
  views = record { names = []; rows = [] };
  root = 3;
}

counted : AreCounted small
unfolding Each
counted = record {
  phyla = omega arith;
  ops = omega arith;
  args = all_of (λ (o : Operator). length o.args ≤ 16) small.ops (omega arith, (omega arith, tt));
  attrs = all_of (λ (x : Phylum). (count_by is_written x.attrs ≤ 32) × (count_by is_far x.attrs ≤ 1048576)) small.phyla ((omega arith, omega arith), ((omega arith, omega arith), ((omega arith, omega arith), ((omega arith, omega arith), ((omega arith, omega arith), tt)))));
  locals = all_of (λ (o : Operator). length o.locals ≤ 32) small.ops (omega arith, (omega arith, tt));
  functions = omega arith;
  params = all_of (λ (f : Function). length f.params ≤ 16) small.functions tt;
  transforms = omega arith;
  schemes = all_of (λ (o : Operator). length o.schemes ≤ 16) small.ops (omega arith, (omega arith, tt));
  productions = omega arith;
  symbols = all_of (λ (r : Production). length r.right ≤ 16) small.productions tt;
  rules = omega arith;
  views = omega arith;
  rows = all_of (λ (row : List (List Scheme)). All (λ (ss : List Scheme). length ss ≤ 16) row) [] tt;
}

Differ : Bytes → Bytes → Type 0
Differ s t = IsTrue (not (bytes_eq s t))

differ : (s t : Bytes) → Differ s t → s ≢ t
unfolding Differ
differ s t h e = let b : bytes_eq s t ≡ true = (bytes_eq-Decides s t).1 e in cc (b, h)

distinct : (names : List Bytes) → EachPair Differ names → AreDistinct names
distinct names h i j d l m = differ _ _ (pairs_of Differ names h i j d l m)

names : HasNames small
unfolding Each EachPair Differ
names = record {
  base = refl;
  phyla = distinct (map (λ (x : Phylum). x.name) small.phyla) ((refl, (refl, (refl, (refl, tt)))), ((refl, (refl, (refl, tt))), ((refl, (refl, tt)), ((refl, tt), (tt, tt)))));
  nonterminals = all_of (IsNamed small) small.productions tt;
  numbered = λ n r is k l. cc is;
  callables = distinct (map (λ (o : Operator). o.name) small.ops ++ (map (λ (f : Function). f.name) small.functions ++ builtin_names)) ((refl, (refl, (refl, (refl, tt)))), ((refl, (refl, (refl, tt))), ((refl, (refl, tt)), ((refl, tt), (tt, tt)))));
  attrs = all_of (λ (x : Phylum). AreDistinct (map (λ (a : Attr). a.name) (filter is_written x.attrs))) small.phyla (one, (one, (one, (none, (one, tt)))));
  locals = all_of (λ (o : Operator). AreDistinct (map (λ (l : Local). l.name) o.locals)) small.ops (none, (none, tt));
  views = none;
}
  where
    one : AreDistinct (value_name ∷ [])
    one = distinct (value_name ∷ []) (tt, tt)

    none : AreDistinct []
    none = distinct [] tt

-- from each place to the element that stands there
EachAt : {A : Type 0} → (ℕ → A → Type 0) → ℕ → List A → Type 0
EachAt P n [] = Unit {0}
EachAt P n (x ∷ xs) = P n x × EachAt P (suc n) xs

at_of : {A : Type 0} (P : ℕ → A → Type 0) (n : ℕ) (xs : List A) → EachAt P n xs → (k : ℕ) (x : A) → slice_get xs k ≡ Some x → P (n + k) x
unfolding EachAt
at_of P n [] h k x is = cc
at_of P n (y ∷ xs) h zero x is = let e : y ≡ x = cc is in let f : n + 0 ≡ n = omega arith in rw (f, ← e) h.0
at_of P n (y ∷ xs) h (suc k) x is = let f : n + suc k ≡ suc n + k = omega arith in rw f (at_of P (suc n) xs h.1 k x is)

types : (p : ℕ) → All (λ (a : Attr). (a.of ≡ p) ⊎ IsTrue (is_usable small a.of)) (value p ∷ [])
unfolding Each
types p = all_of (λ (a : Attr). (a.of ≡ p) ⊎ IsTrue (is_usable small a.of)) (value p ∷ []) (inl refl, tt)

phyla : (p : ℕ) (x : Phylum) → slice_get small.phyla p ≡ Some x → IsPhylum small p x
unfolding Each EachAt
phyla p x is = let e : 0 + p ≡ p = omega arith in rw e at (at_of (IsPhylum small) 0 small.phyla every p x is)
  where
    every : EachAt (IsPhylum small) 0 small.phyla
    every = (
      record { base = refl; shape = (refl, refl); ops = refl; types = types 0 },
      (
        record { base = refl; shape = (refl, refl); ops = refl; types = types 1 },
        (
          record { base = refl; shape = (refl, refl); ops = refl; types = types 2 },
          (
            record { base = refl; shape = omega arith; ops = refl; types = all_of (λ (a : Attr). (a.of ≡ 3) ⊎ IsTrue (is_usable small a.of)) [] tt },
            (record { base = refl; shape = omega arith; ops = refl; types = all_of (λ (a : Attr). (a.of ≡ 4) ⊎ IsTrue (is_usable small a.of)) (value 1 ∷ []) (inr refl, tt) }, tt),
          ),
        ),
      ),
    )

finite : (p : ℕ) → p < 5 → IsFinite small p
finite zero low = ((omega arith, omega arith), (omega arith, omega arith))
finite (suc zero) low = ((omega arith, omega arith), (omega arith, omega arith))
finite (suc (suc zero)) low = ((omega arith, omega arith), (omega arith, omega arith))
finite (suc (suc (suc zero))) low = ((omega arith, omega arith), (omega arith, omega arith))
finite (suc (suc (suc (suc zero)))) low = ((omega arith, omega arith), (omega arith, omega arith))
finite (suc (suc (suc (suc (suc p))))) low = absurd (omega (arith, low))

shapes : HasShapes small
unfolding Each
shapes = record {
  phyla = phyla;
  ops = all_of (λ (o : Operator). o.phylum < 5) small.ops (omega arith, (omega arith, tt));
  args = all_of (λ (o : Operator). All (λ p. IsTrue (is_usable small p)) o.args) small.ops (all_of (λ p. IsTrue (is_usable small p)) (4 ∷ []) (refl, tt), (all_of (λ p. IsTrue (is_usable small p)) [] tt, tt));
  locals = all_of (λ (o : Operator). All (λ (l : Local). IsTrue (is_usable small l.of)) o.locals) small.ops (none, (none, tt));
  root = (omega arith, all_of (λ (a : Attr). a.way ≡ Synthesized) [] tt);
  lexemes = refl;
  finite = finite;
}
  where
    none : All (λ (l : Local). IsTrue (is_usable small l.of)) []
    none = all_of (λ (l : Local). IsTrue (is_usable small l.of)) [] tt

once : (op k slot : ℕ) → op < 2 → IsTrue (is_owed small op k slot) → count_by (defines op (record { at = k; slot = slot })) small.rules ≡ 1
once zero zero slot low is = cc
once zero (suc zero) zero low is = cc
once zero (suc zero) (suc slot) low is = cc
once zero (suc (suc k)) slot low is = cc
once (suc zero) zero zero low is = refl
once (suc zero) zero (suc slot) low is = cc
once (suc zero) (suc k) slot low is = cc
once (suc (suc op)) k slot low is = absurd (omega (arith, low))

rules : HasRules small
unfolding Each
rules = record {
  one_each = once;
  no_other = all_of (λ (r : Rule). IsTrue (is_owed small r.op r.target.at r.target.slot)) small.rules (refl, tt);
  typed = all_of (λ (r : Rule). IsTrue (is_rule_typed small r)) small.rules (refl, tt);
}

typed : IsTyped small
unfolding Each
typed = record {
  functions = all_of (λ (f : Function). IsTrue (is_typed small f.params f.body f.result)) [] tt;
  params = all_of (λ (f : Function). All (λ p. IsTrue (is_usable small p)) (f.result ∷ f.params)) [] tt;
  transforms = all_of (λ (x : Transform). MatchOption (bound_types small x.pattern x.phylum) ⊥ (λ G. IsTrue (is_typed small G x.expr x.phylum))) [] tt;
  phyla = all_of (λ (x : Transform). IsTrue (is_usable small x.phylum)) [] tt;
  productions = all_of (λ (r : Production). MatchOption (symbol_types small r.right) ⊥ (λ G. IsTrue (is_typed small G r.expr r.of))) [] tt;
  results = all_of (λ (r : Production). (result_type small r.left ≡ Some r.of) × IsTrue (is_usable small r.of)) [] tt;
}

schemes : HasSchemes small
unfolding Each EachAt
schemes = record {
  shown = λ op o is s. shown op o is;
  schemes = λ op o is. let e : 0 + op ≡ op = omega arith in rw e at (at_of (λ op (o : Operator). All (IsScheme small op) o.schemes) 0 small.ops every op o is);
  views = λ v op low. none op (schemes_in_view small.views v op) (nothing v op);
}
  where
    nothing : (v op : ℕ) → schemes_in_view small.views v op ≡ []
    nothing zero op = refl
    nothing (suc v) op = refl

    none : (op : ℕ) (ss : List Scheme) → ss ≡ [] → All (IsScheme small op) ss
    none op ss is = rw is (all_of (IsScheme small op) [] tt)

    shown : (op : ℕ) (o : Operator) → slice_get small.ops op ≡ Some o → 1 ≤ length o.schemes
    shown op o is = at_of (λ k (o : Operator). 1 ≤ length o.schemes) 0 small.ops (omega arith, (omega arith, tt)) op o is

    every : EachAt (λ op (o : Operator). All (IsScheme small op) o.schemes) 0 small.ops
    every = (
      all_of (IsScheme small 0) (record { rests = true; editable = false; items = Child Resting ∷ [] } ∷ []) (record { places = refl; separators = refl; shown = all_of (IsItem small 0) (Child Resting ∷ []) (tt, tt) }, tt),
      (all_of (IsScheme small 1) (record { rests = true; editable = true; items = Writes (Written (101 ∷ []) ∷ []) ∷ [] } ∷ []) (record { places = refl; separators = refl; shown = all_of (IsItem small 1) (Writes (Written (101 ∷ []) ∷ []) ∷ []) (tt, tt) }, tt), tt),
    )

-- no attribute of it is far
of_value : (p s : ℕ) (a : Attr) → slice_get (value p ∷ []) s ≡ Some a → is_far a ≡ false
of_value p zero a is = let e : value p ≡ a = cc is in rw (← e) refl
of_value p (suc s) a is = cc is

none_far : (p s : ℕ) (a : Attr) → slice_get (attrs_of small.phyla p) s ≡ Some a → is_far a ≡ false
none_far zero s a is = of_value 0 s a is
none_far (suc zero) s a is = of_value 1 s a is
none_far (suc (suc zero)) s a is = of_value 2 s a is
none_far (suc (suc (suc zero))) s a is = cc is
none_far (suc (suc (suc (suc zero)))) s a is = of_value 1 s a is
none_far (suc (suc (suc (suc (suc p))))) s a is = cc is

far : HasFar small
far = record {
  inherited = λ p s a is b. cc (none_far p s a is, b);
  named = λ p s a is b. cc (none_far p s a is, b);
  listed = λ p s a is b. cc (none_far p s a is, b);
  last = λ p i j a b l is it c. cc (none_far p i a is, c);
  handed = λ op k p q s a left arg is b. cc (none_far q s a is, b);
}

pub small_is_sound : IsSound small
unfolding Each EachPair
small_is_sound = record {
  counted = counted;
  names = names;
  shapes = shapes;
  rules = rules;
  typed = typed;
  schemes = schemes;
  lexemes = all_of (λ p. Matches p [] → ⊥) [] tt;
  entries = record {
    once = pairs_of (λ (x y : Entry). x.phylum ≢ y.phylum) [] tt;
    usable = all_of (λ (x : Entry). IsTrue (is_usable small x.phylum)) [] tt;
    results = all_of (λ (x : Entry). MatchOption (result_type small x.nonterminal) ⊥ (λ p. IsTrue (is_accepted small p x.phylum))) [] tt;
  };
  levels = distinct [] tt;
  far = far;
}
