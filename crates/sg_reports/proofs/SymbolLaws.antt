-- The symbols of the grammar are printed as they are written.
use Rattle.std.specs.Prelude.{◌≡◌, ℕ, zero, suc, ◌+◌, ◌-◌, ◌<◌, ◌≤◌, Bool, true, false, cond, not, if◌then◌else◌, ◌↔◌, List, [], ◌∷◌, ◌++◌, map, take, flat_map, length, bytes_eq, Contains, All, Some, Result, Ok, Err, OnOk, slice_get, option_map, unwrap_or}
use Rattle.std.specs.List.{position_or_len}
use Rattle.std.proofs.Common.{refl, sym, ap, ◌∙◌, subst, get_or, arith, inl, inr}
use Rattle.std.proofs.lemmas.Bool.{cases_lt, cases_eq, eq-eqb, ne_eqb, lt-ltb}
use Rattle.std.proofs.lemmas.List.{length-append, length-map, map-append, append_assoc, take_at, get_or_append_left, get_or-append_right}
use Rattle.std.proofs.lemmas.List.Elements.{Contains-append_cases}
use Rattle.std.proofs.lemmas.Option.{none-some, same_Some, slice_get_within, get_or_from_slice_get}
use Rattle.std.proofs.lemmas.Slice.Eq.{bytes_eq-Decides}
use Rattle.sg_kinds.specs.Values.{Bytes}
use Rattle.sg_kinds.specs.Specification.{is_lexical_shape, phylum_name}
use Rattle.sg_kinds.specs.Instances.{below}
use Rattle.sg_kinds.specs.Sound.{HasShapes, HasNames, IsNumbered, IsNamed, lexeme_place}
use Rattle.sg_kinds.specs.declared.marks.Shape.{Shape}
use Rattle.sg_kinds.specs.declared.marks.Shape.TheVariants.{Lexemes}
use Rattle.sg_kinds.specs.declared.spec.LevelLine.{LevelLine}
use Rattle.sg_kinds.specs.declared.spec.Phylum.{Phylum}
use Rattle.sg_kinds.specs.declared.spec.Production.{Production}
use Rattle.sg_kinds.specs.declared.spec.Symbol.TheVariants.{Quoted, Lexical}
use Rattle.sg_kinds.specs.declared.spec.Entry.{Entry}
use Rattle.sg_kinds.specs.declared.spec.Spec.{Spec}
use Rattle.sg_kinds.specs.declared.fault.PrintedSymbol.{PrintedSymbol}
use Rattle.sg_kinds.specs.declared.fault.PrintedSymbol.TheVariants.{End, Marker, Literal, Name}
use Rattle.sg_kinds.proofs.Elementary.{slice_get-seam}
use Rattle.sg_patterns.specs.Lexemes.{literals_of}
use Rattle.sg_prec.specs.Levels.{lines_of, height, levels_before, levels_of, row_at}
use Rattle.sg_prec.proofs.RisingRows.{row_of_levels}
use Rattle.sg_grammar.specs.Numbered.{first_literal, first_lexeme, first_nonterminal, level_number, lexeme_number, symbol_number}
use Rattle.sg_grammar.proofs.LevelNumbers.{before_rises}
use Rattle.sg_dependencies.proofs.Below.{length-below, get_or-below, length-map-below, get_or-map-below}
use Rattle.sg_reports.specs.Symbols.{marker_of, lexeme_symbols, level_name, level_symbols, nonterminal_symbols, symbols_named, printed_symbols, symbol_in, name_of, written_name}
use Rattle.sg_reports.proofs.VertexLaws.{mapped_there}

-- the first of the texts that is a text
position_step : (s t : Bytes) (ts : List Bytes) (b : Bool) → bytes_eq s t ≡ b → (b ≡ false → (position_or_len (bytes_eq s) ts < length ts) × (slice_get ts (position_or_len (bytes_eq s) ts) ≡ Some s))
    → (cond (not b) (1 + position_or_len (bytes_eq s) ts) 0 < suc (length ts)) × (slice_get (t ∷ ts) (cond (not b) (1 + position_or_len (bytes_eq s) ts) 0) ≡ Some s)
position_step s t ts true is rest = (omega arith, ap Some (sym ((bytes_eq-Decides s t).0 is)))
position_step s t ts false is rest = let r = rest refl in (let l = r.0 in omega (arith, l), ap (λ k. slice_get (t ∷ ts) k) (one (position_or_len (bytes_eq s) ts)) ∙ r.1)
  where
    one : (k : ℕ) → 1 + k ≡ suc k
    one k = omega arith

text_there : (ts : List Bytes) (s : Bytes) → Contains ts s → (position_or_len (bytes_eq s) ts < length ts) × (slice_get ts (position_or_len (bytes_eq s) ts) ≡ Some s)
text_there [] s (k, low, is) = absurd (omega (arith, low))
text_there (t ∷ ts) s (zero, low, is) = position_step s t ts (bytes_eq s t) refl (λ e. absurd (let same : bytes_eq s t ≡ true = (bytes_eq-Decides s t).1 (sym is) in cc))
text_there (t ∷ ts) s (suc k, low, is) = position_step s t ts (bytes_eq s t) refl (λ e. text_there ts s (k, omega (arith, low), is))

-- lexeme phyla have their places in their order
record HasPlace (xs : List Phylum) (l : ℕ) (name : Bytes) : Type 0 where
  at : ℕ
  place : slice_get (flat_map (λ (y : Phylum). lexeme_place y.shape) xs) at ≡ Some l
  symbol : slice_get (lexeme_symbols xs) at ≡ Some (Name name)

abbrev with_symbol : Shape → Bytes → List PrintedSymbol → List PrintedSymbol
with_symbol shape name rest = if is_lexical_shape shape then Name name ∷ rest else rest

behind : (shape : Shape) (name word : Bytes) (places : List ℕ) (symbols : List PrintedSymbol) (j l : ℕ) → slice_get places j ≡ Some l → slice_get symbols j ≡ Some (Name word)
    → (i : ℕ) × (slice_get (lexeme_place shape ++ places) i ≡ Some l) × (slice_get (with_symbol shape name symbols) i ≡ Some (Name word))
behind (Lexemes m) name word places symbols j l p q = (suc j, p, q)
behind shape name word places symbols j l p q = (j, p, q)

has_place : (xs : List Phylum) (p l : ℕ) (x : Phylum) → slice_get xs p ≡ Some x → x.shape ≡ Lexemes l → HasPlace xs l x.name
has_place [] p l x at is = absurd (none-some x at)
has_place (y ∷ ys) zero l x at is =
    let same = same_Some y x at in
    record {
      at = 0;
      place = ap (λ s. slice_get (lexeme_place s ++ flat_map (λ (z : Phylum). lexeme_place z.shape) ys) 0) (ap (λ (z : Phylum). z.shape) same ∙ is);
      symbol = ap (λ s. slice_get (with_symbol s y.name (lexeme_symbols ys)) 0) (ap (λ (z : Phylum). z.shape) same ∙ is) ∙ ap (λ (z : Phylum). Some (Name z.name)) same;
    }
has_place (y ∷ ys) (suc p) l x at is =
    let rest = has_place ys p l x at is in
    let next = behind y.shape y.name x.name (flat_map (λ (z : Phylum). lexeme_place z.shape) ys) (lexeme_symbols ys) rest.at l rest.place rest.symbol in
    record { at = next.0; place = next.1; symbol = next.2 }

as_many : (shape : Shape) (name : Bytes) (places : List ℕ) (symbols : List PrintedSymbol) → length places ≡ length symbols → length (lexeme_place shape ++ places) ≡ length (with_symbol shape name symbols)
as_many (Lexemes m) name places symbols e = omega (arith, e)
as_many shape name places symbols e = e

lexemes_length : (xs : List Phylum) → length (flat_map (λ (y : Phylum). lexeme_place y.shape) xs) ≡ length (lexeme_symbols xs)
lexemes_length [] = refl
lexemes_length (y ∷ ys) = as_many y.shape y.name (flat_map (λ (z : Phylum). lexeme_place z.shape) ys) (lexeme_symbols ys) (lexemes_length ys)

below_at : (n k l : ℕ) → slice_get (below n) k ≡ Some l → (k ≡ l) × (l < n)
below_at n k l is =
    let low = slice_get_within (below n) k l is in
    let long = length-below n in
    let under : k < n = omega (arith, low, long) in
    let same : k ≡ l = sym (get_or-below n k 0 under) ∙ get_or_from_slice_get (below n) k l 0 is in
    (same, omega (arith, under, same))

-- the left sides of a list's productions
abbrev lefts : List Production → List ℕ
lefts rs = map (λ (s : Production). s.left) rs

-- a left side is not past the next number
left_low : (front rest : List Production) (x : Production) (n : ℕ) → IsNumbered (front ++ x ∷ rest) → ((k : ℕ) → Contains (lefts front) k → k < n) → x.left ≤ n
left_low front rest x n numbered under = elim (cases_lt n x.left) [
  | inl past ↦ absurd (
      let there : Contains (lefts (take (length front) (front ++ x ∷ rest))) n = numbered (length front) x (slice_get-seam front x rest) n past in
      let low = under n (subst (λ rs. Contains (lefts rs) n) (take_at front (x ∷ rest) (length front) refl) there) in
      omega (arith, low))
  | inr low ↦ low
]

lefts_under : (front : List Production) (x : Production) (n m : ℕ) → n ≤ m → x.left < m → ((k : ℕ) → Contains (lefts front) k → k < n) → (k : ℕ) → Contains (lefts (front ++ x ∷ [])) k → k < m
lefts_under front x n m up low under k there = elim (Contains-append_cases (lefts front) (x.left ∷ []) k (subst (λ ks. Contains ks k) (map-append (λ (s : Production). s.left) front (x ∷ [])) there)) [
  | inl before ↦ let u = under k before in omega (arith, u, up)
  | inr here ↦ only here
]
  where
    only : Contains (x.left ∷ []) k → k < m
    only (zero, l, e) = omega (arith, e, low)
    only (suc j, l, e) = absurd (omega (arith, l))

in_list : (rs : List Production) (j : ℕ) (r : Production) → slice_get rs j ≡ Some r → Contains rs r
in_list rs j r at = (j, slice_get_within rs j r at, get_or_from_slice_get rs j r r at)

in_rest : (x : Production) (rest : List Production) (s : Production) → Contains rest s → Contains (x ∷ rest) s
in_rest x rest s (k, low, is) = (suc k, omega (arith, low), is)

-- productions of one left side have one name
abbrev AreNamed : List Production → Type 0
AreNamed rest = (s t : Production) → Contains rest s → Contains rest t → s.left ≡ t.left → s.name ≡ t.name

module _ (told : Bool) (lines : List LevelLine) (ps : List Production) where
  -- a level of r stands at a place
  abbrev IsSymbolAt : List PrintedSymbol → ℕ → Production → ℕ → Type 0
  IsSymbolAt symbols k r i = (k < length symbols) × (get_or symbols k End ≡ Name (level_name told r.name (height lines ps r.left) i))

  abbrev symbols_from : ℕ → List Production → List PrintedSymbol
  symbols_from n rs = nonterminal_symbols told (height lines ps) n rs

  abbrev own_symbols : Bytes → ℕ → List PrintedSymbol
  own_symbols name n = level_symbols told name (height lines ps n)

  own_long : (name : Bytes) (n : ℕ) → length (own_symbols name n) ≡ suc (height lines ps n)
  unfolding level_symbols
  own_long name n = length-map-below (λ i. Name (level_name told name (height lines ps n) i)) (suc (height lines ps n))

  abbrev next_symbols : Bool → ℕ → Production → List Production → List PrintedSymbol
  next_symbols b n x rest = if b then own_symbols x.name n ++ symbols_from (suc n) rest else symbols_from n rest

  -- the levels of the nonterminal that comes next
  own_there : (x r : Production) (rest : List Production) (n i k : ℕ) → x.name ≡ r.name → r.left ≡ n → i ≤ height lines ps r.left → levels_before lines ps n + k ≡ levels_before lines ps r.left + i
      → IsSymbolAt (own_symbols x.name n ++ symbols_from (suc n) rest) k r i
  unfolding level_symbols
  own_there x r rest n i k name same low place =
      let before = ap (levels_before lines ps) same in
      let last = ap (height lines ps) same in
      let at : k ≡ i = omega (arith, before, place) in
      let long = own_long x.name n in
      let whole = length-append (own_symbols x.name n) (symbols_from (suc n) rest) in
      let inside : k < length (own_symbols x.name n) = omega (arith, long, at, low, last) in (
        omega (arith, inside, whole),
        get_or_append_left (own_symbols x.name n) (symbols_from (suc n) rest) End k inside
            ∙ get_or-map-below (λ j. Name (level_name told x.name (height lines ps n) j)) (suc (height lines ps n)) k End (omega (arith, at, low, last))
            ∙ (λ t. Name (level_name told (name t) (sym last t) (at t))),
      )

  -- those behind them
  rest_there : (x r : Production) (rest : List Production) (n i k : ℕ) → suc (height lines ps n) ≤ k → IsSymbolAt (symbols_from (suc n) rest) (k - suc (height lines ps n)) r i
      → IsSymbolAt (own_symbols x.name n ++ symbols_from (suc n) rest) k r i
  rest_there x r rest n i k past later =
      let long = own_long x.name n in
      let whole = length-append (own_symbols x.name n) (symbols_from (suc n) rest) in
      let inside = later.0 in (
        omega (arith, inside, whole, long, past),
        get_or-append_right (own_symbols x.name n) (symbols_from (suc n) rest) (suc (height lines ps n)) k End long past ∙ later.1,
      )

  -- the symbols of a nonterminal are those of its first production
  nonterminal_there : (front rest : List Production) (n j : ℕ) (r : Production) (i k : ℕ) → IsNumbered (front ++ rest) → ((m : ℕ) → Contains (lefts front) m → m < n)
      → AreNamed rest → slice_get rest j ≡ Some r → n ≤ r.left → i ≤ height lines ps r.left → levels_before lines ps n + k ≡ levels_before lines ps r.left + i → IsSymbolAt (symbols_from n rest) k r i
  nonterminal_there front [] n j r i k numbered under alike at low high place = absurd (none-some r at)
  nonterminal_there front (x ∷ rest) n j r i k numbered under alike at low high place =
      elim (cases_eq x.left n) [
        | inl new ↦ subst (λ b. IsSymbolAt (next_symbols b n x rest) k r i) (sym (eq-eqb x.left n new)) (
            elim (cases_eq r.left n) [
              | inl same ↦ own_there x r rest n i k (alike x r (0, omega arith, refl) (in_list (x ∷ rest) j r at) (new ∙ sym same)) same high place
              | inr other ↦
                  let past : suc n ≤ r.left = omega (arith, low, other) in
                  let up = before_rises lines ps n r.left past in
                  let later = later_place j at (λ e. let z = ap (λ (s : Production). s.left) e in omega (arith, z, new, past)) in
                  rest_there x r rest n i k (omega (arith, up, place))
                  (nonterminal_there (front ++ x ∷ []) rest (suc n) later.0 r i (k - suc (height lines ps n)) numbered_rest (lefts_under front x n (suc n) (omega arith) (omega (arith, new)) under) alike_rest later.1 past high (omega (arith, up, place)))
            ])
        | inr known ↦
            let most = left_low front rest x n numbered under in
            let below : x.left < n = omega (arith, most, known) in
            let later = later_place j at (λ e. let z = ap (λ (s : Production). s.left) e in omega (arith, z, below, low)) in
            subst (λ b. IsSymbolAt (next_symbols b n x rest) k r i) (sym (ne_eqb x.left n known))
            (nonterminal_there (front ++ x ∷ []) rest n later.0 r i k numbered_rest (lefts_under front x n n (omega arith) below under) alike_rest later.1 low high place)
      ]
    where
      numbered_rest : IsNumbered ((front ++ x ∷ []) ++ rest)
      numbered_rest = subst IsNumbered (sym (append_assoc front (x ∷ []) rest)) numbered

      alike_rest : AreNamed rest
      alike_rest s t a b e = alike s t (in_rest x rest s a) (in_rest x rest t b) e

      later_place : (m : ℕ) → slice_get (x ∷ rest) m ≡ Some r → (x ≡ r → ⊥) → (l : ℕ) × (slice_get rest l ≡ Some r)
      later_place zero e other = absurd (other (same_Some x r e))
      later_place (suc l) e other = (l, e)

  -- the last levels as the lines of each nonterminal tell them
  pub levels_told : (rows : List (List ℕ)) → rows ≡ levels_of lines ps → (rs : List Production) → nonterminal_symbols told (λ n. length (row_at rows n)) 0 rs ≡ symbols_from 0 rs
  levels_told rows is rs =
      let row : (n : ℕ) → row_at rows n ≡ lines_of lines ps n = λ n. ap (λ z. row_at z n) is ∙ row_of_levels lines ps n in
      let last : (λ (n : ℕ). length (row_at rows n)) ≡ height lines ps = λ t n. length (row n t) in
      ap (λ (h : ℕ → ℕ). nonterminal_symbols told h 0 rs) last

-- what the code puts behind the other symbols
pub grammar_answer : {T E : Type 0} (r : Result T E) (told : Bool) (lines ls : List LevelLine) (ps rs : List Production) (rows : List (List ℕ)) (old new : List PrintedSymbol) → ls ≡ lines → rs ≡ ps → rows ≡ levels_of ls rs
    → OnOk r (new ≡ old ++ nonterminal_symbols told (λ n. length (row_at rows n)) 0 rs) → OnOk r (new ≡ old ++ nonterminal_symbols told (height lines ps) 0 ps)
grammar_answer (Ok x) told lines ls ps rs rows old new a b is h = h ∙ ap (λ xs. old ++ xs) (levels_told told ls rs rows is rs) ∙ (λ t. old ++ nonterminal_symbols told (height (a t) (b t)) 0 (b t))
grammar_answer (Err e) told lines ls ps rs rows old new a b is h = tt

module _ (spec : Spec) where
  abbrev markers : List PrintedSymbol
  markers = map (marker_of spec.phyla) spec.entries

  abbrev literals : List PrintedSymbol
  literals = map Literal (literals_of spec.productions)

  abbrev lexemes : List PrintedSymbol
  lexemes = lexeme_symbols spec.phyla

  abbrev nonterminals : List PrintedSymbol
  nonterminals = nonterminal_symbols true (height spec.levels spec.productions) 0 spec.productions

  markers_length : length (End ∷ [] ++ markers) ≡ first_literal spec
  markers_length = let l = length-map spec.entries (marker_of spec.phyla) in let a = length-append (End ∷ []) markers in omega (arith, l, a)

  literals_length : length (End ∷ [] ++ markers ++ literals) ≡ first_lexeme spec
  literals_length = let l = length-map (literals_of spec.productions) Literal in let a = length-append (End ∷ [] ++ markers) literals in let m = markers_length in omega (arith, l, a, m)

  lexemes_end : HasShapes spec → length (End ∷ [] ++ markers ++ literals ++ lexemes) ≡ first_nonterminal spec
  lexemes_end shapes =
      let count : length lexemes ≡ length spec.lexemes = sym (lexemes_length spec.phyla) ∙ ap (λ ks. length ks) shapes.lexemes ∙ length-below (length spec.lexemes) in
      let a = length-append (End ∷ [] ++ markers ++ literals) lexemes in
      let m = literals_length in
      omega (arith, count, a, m)

  pub end_symbol : symbol_in (printed_symbols spec) 0 ≡ End
  end_symbol = refl

  pub marker_symbol : (k : ℕ) (e : Entry) → slice_get spec.entries k ≡ Some e → symbol_in (printed_symbols spec) (suc k) ≡ Marker (phylum_name spec.phyla e.phylum)
  marker_symbol k e at =
      let low = slice_get_within spec.entries k e at in
      let m = markers_length in
      let a = length-append (End ∷ [] ++ markers) literals in
      let b = length-append (End ∷ [] ++ markers ++ literals) lexemes in
      get_or_append_left (End ∷ [] ++ markers ++ literals ++ lexemes) nonterminals End (suc k) (omega (arith, low, m, a, b))
      ∙ get_or_append_left (End ∷ [] ++ markers ++ literals) lexemes End (suc k) (omega (arith, low, m, a))
      ∙ get_or_append_left (End ∷ [] ++ markers) literals End (suc k) (omega (arith, low, m))
      ∙ mapped_there (marker_of spec.phyla) spec.entries k e End at

  pub literal_symbol : (s : Bytes) → Contains (literals_of spec.productions) s → symbol_in (printed_symbols spec) (symbol_number spec (Quoted s)) ≡ Literal s
  literal_symbol s in' =
      let texts = literals_of spec.productions in
      let k = position_or_len (bytes_eq s) texts in
      let there = text_there texts s in' in
      let low = there.0 in
      let m = markers_length in
      let l = literals_length in
      let b = length-append (End ∷ [] ++ markers ++ literals) lexemes in
      let rest : first_literal spec + k - first_literal spec ≡ k = omega arith in
      get_or_append_left (End ∷ [] ++ markers ++ literals ++ lexemes) nonterminals End (first_literal spec + k) (omega (arith, low, l, b))
      ∙ get_or_append_left (End ∷ [] ++ markers ++ literals) lexemes End (first_literal spec + k) (omega (arith, low, l))
      ∙ get_or-append_right (End ∷ [] ++ markers) literals (first_literal spec) (first_literal spec + k) End m (omega arith)
      ∙ ap (λ i. get_or literals i End) rest
      ∙ mapped_there Literal texts k s End there.1

  pub lexeme_symbol : HasShapes spec → (p l : ℕ) (x : Phylum) → slice_get spec.phyla p ≡ Some x → x.shape ≡ Lexemes l → symbol_in (printed_symbols spec) (symbol_number spec (Lexical p)) ≡ Name x.name
  lexeme_symbol shapes p l x at is =
      let has = has_place spec.phyla p l x at is in
      let same = below_at (length spec.lexemes) has.at l (sym (ap (λ ks. slice_get ks has.at) shapes.lexemes) ∙ has.place) in
      let low = same.1 in
      let number : symbol_number spec (Lexical p) ≡ first_lexeme spec + l =
      ap (λ o. unwrap_or (option_map (λ (y : Phylum). lexeme_number spec y.shape) o) 0) at ∙ ap (lexeme_number spec) is ∙ ap (λ b. if b then first_lexeme spec + l else 0) (lt-ltb l (length spec.lexemes) low) in
      let count : length lexemes ≡ length spec.lexemes = sym (lexemes_length spec.phyla) ∙ ap (λ ks. length ks) shapes.lexemes ∙ length-below (length spec.lexemes) in
      let ends = literals_length in
      let b = length-append (End ∷ [] ++ markers ++ literals) lexemes in
      let rest : first_lexeme spec + l - first_lexeme spec ≡ l = omega arith in
      ap (λ i. symbol_in (printed_symbols spec) i) number
      ∙ get_or_append_left (End ∷ [] ++ markers ++ literals ++ lexemes) nonterminals End (first_lexeme spec + l) (omega (arith, low, count, ends, b))
      ∙ get_or-append_right (End ∷ [] ++ markers ++ literals) lexemes (first_lexeme spec) (first_lexeme spec + l) End ends (omega arith)
      ∙ ap (λ i. get_or lexemes i End) (rest ∙ sym same.0)
      ∙ get_or_from_slice_get lexemes has.at (Name x.name) End has.symbol

  told_symbol : (told : Bool) → HasShapes spec → HasNames spec → (k : ℕ) (r : Production) → slice_get spec.productions k ≡ Some r → (i : ℕ) → i ≤ height spec.levels spec.productions r.left
      → symbol_in (symbols_named told spec) (level_number spec r.left i) ≡ Name (level_name told r.name (height spec.levels spec.productions r.left) i)
  unfolding level_number
  told_symbol told shapes names k r at i low =
      let alike : AreNamed spec.productions = λ s t a b e. ((all_of (λ q. (q.name ≡ t.name) ↔ (q.left ≡ t.left)) spec.productions (all_of (IsNamed spec) spec.productions names.nonterminals t b).1 s a).1 e) in
      let levels = nonterminal_symbols told (height spec.levels spec.productions) 0 spec.productions in
      let number = first_nonterminal spec + (levels_before spec.levels spec.productions r.left + i) in
      let there = nonterminal_there told spec.levels spec.productions [] spec.productions 0 k r i (number - first_nonterminal spec) names.numbered (λ j c. absurd (let l = c.1 in omega (arith, l))) alike at (omega arith) low (omega arith) in
      get_or-append_right (End ∷ [] ++ markers ++ literals ++ lexemes) levels (first_nonterminal spec) number End (lexemes_end shapes) (omega arith)
      ∙ there.1
    where
      all_of : {X : Type 0} (P : X → Type 0) (xs : List X) → All P xs → (x : X) → Contains xs x → P x
      all_of P xs all x (j, low, is) = subst P is (all j x low)

  pub nonterminal_symbol : HasShapes spec → HasNames spec → (k : ℕ) (r : Production) → slice_get spec.productions k ≡ Some r → (i : ℕ) → i ≤ height spec.levels spec.productions r.left
      → symbol_in (printed_symbols spec) (level_number spec r.left i) ≡ Name (level_name true r.name (height spec.levels spec.productions r.left) i)
  nonterminal_symbol = told_symbol true

  pub written_symbol : HasShapes spec → HasNames spec → (k : ℕ) (r : Production) → slice_get spec.productions k ≡ Some r → (i : ℕ) → i ≤ height spec.levels spec.productions r.left
      → written_name spec (level_number spec r.left i) ≡ r.name
  unfolding level_name
  written_symbol shapes names k r at i low = ap name_of (told_symbol false shapes names k r at i low)
