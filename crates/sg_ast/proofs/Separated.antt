-- Lists with commas in parentheses: their spellings are read, and what is read is spelled.
use Rattle.std.proofs.Common.{◌≡◌, ◌≢◌, false, List, [], ◌∷◌, ◌++◌, length, Some, refl, sym, subst, arith}
use Rattle.std.specs.Prelude.{flat_map, ⊤}
use Rattle.std.specs.List.{AllByRecursion, join_by}
use Rattle.sg_text.specs.declared.symbols.Symbol.TheVariants.{Comma, RightParenthesis}
use Rattle.sg_ast.specs.Spelling.{Mark, Piece, Takes, sign, comma}
use Rattle.sg_ast.specs.Readers.{Reader, is_sign, sees}
use Rattle.sg_ast.specs.ReadingNames.{another, separated, arguments}
use Rattle.sg_ast.proofs.Steps.{◌then◌, splits, ends, opens, closes, either, First, sign_behind, sign_read, sees_free, Items, more_reads, more_read}

-- how the elements are spelled and read; a comma or a parenthesis may stand behind one, and none begins with the latter
pub record Elements {A : Type 0} (one : Reader A) (s : A → List Piece) (Is : A → Type 0) (Ends : List Mark → Type 0) : Type 0 where
  pub reads : (a : A) {ms rest : List Mark} → Is a → Takes (s a) ms rest → Ends rest → one ms ≡ Some (a, rest)
  pub begins : (a : A) {ms rest : List Mark} → Takes (s a) ms rest → sees (is_sign RightParenthesis) ms ≡ false
  pub at_comma : (ps : List Piece) (ms rest : List Mark) → Takes (sign Comma ∷ ps) ms rest → Ends ms
  pub at_end : (ps : List Piece) (ms rest : List Mark) → Takes (sign RightParenthesis ∷ ps) ms rest → Ends ms

-- of elements of which nothing is asked
pub trivial : {A : Type 0} (xs : List A) → AllByRecursion (λ x. ⊤) xs
trivial [] = tt
trivial (x ∷ xs) = (tt, trivial xs)

another_reads : {A : Type 0} {one : Reader A} {s : A → List Piece} {Is : A → Type 0} {Ends : List Mark → Type 0} → Elements one s Is Ends
    → (a : A) {ms rest : List Mark} → Is a → Takes (sign Comma ∷ s a) ms rest → Ends rest → another one ms ≡ Some (a, rest)
unfolding another
another_reads elements a is t end =
    let t1 = sign_behind Comma t in rw (t1.read, elements.reads a is t1.tail end) refl

pub others : {A : Type 0} {one : Reader A} {s : A → List Piece} {Is : A → Type 0} {Ends : List Mark → Type 0} → Elements one s Is Ends
    → Items (sees (is_sign Comma)) (another one) (λ a. sign Comma ∷ s a) Is Ends
others {s = s} elements = record {
  reads = λ a is t end. another_reads elements a is t end;
  begins = λ a t. sees_free (is_sign Comma) t;
  behind = λ a {ms} {rest} t. elements.at_comma (s a) ms rest t;
  some = λ a. omega arith;
}

-- what may stand behind the first element
behind : {A : Type 0} {one : Reader A} {s : A → List Piece} {Is : A → Type 0} {Ends : List Mark → Type 0} → Elements one s Is Ends
    → (xs : List A) {ms rest : List Mark} → Takes (flat_map (λ a. sign Comma ∷ s a) xs) ms rest → Ends rest → Ends ms
behind {Ends = Ends} elements [] t end = subst Ends (sym (ends t)) end
behind {s = s} elements (x ∷ xs) {ms = ms} t end = let p = splits (sign Comma ∷ s x) t in elements.at_comma (s x) ms p.0 p.1

-- behind the last element stands what ends the list
pub separated_first : {A : Type 0} {one : Reader A} {s : A → List Piece} {Is : A → Type 0} {Ends : List Mark → Type 0} → Elements one s Is Ends
    → (x : A) (xs : List A) {ps : List Piece} {ms rest : List Mark} → AllByRecursion Is (x ∷ xs) → Takes (join_by s comma (x ∷ xs) ++ ps) ms rest
    → ((mid : List Mark) → Takes ps mid rest → Ends mid × (sees (is_sign Comma) mid ≡ false)) → First (separated one) (x ∷ xs) ps ms rest
unfolding separated
separated_first {s = s} elements x xs is t over =
    let p = splits (s x ++ flat_map (λ a. sign Comma ∷ s a) xs) t in
    let q = splits (s x) p.1 in
    let end = over p.0 p.2 in
    let found = more_reads (others elements) xs (length q.0) (x ∷ []) is.1 q.2 end.0 end.1 (omega arith) in
    record { mid = p.0; read = rw (elements.reads x is.0 q.1 (behind elements xs q.2 end.0), found) refl; tail = p.2 }

pub arguments_first : {A : Type 0} {one : Reader A} {s : A → List Piece} {Is : A → Type 0} {Ends : List Mark → Type 0} → Elements one s Is Ends
    → (xs : List A) {ps : List Piece} {ms rest : List Mark} → AllByRecursion Is xs → Takes (join_by s comma xs ++ sign RightParenthesis ∷ ps) ms rest
    → First (arguments one) xs ps ms rest
unfolding arguments
arguments_first elements [] is t =
    let t1 = sign_behind RightParenthesis t in
    record { mid = t1.mid; read = rw (sees_free (is_sign RightParenthesis) t, t1.read) refl; tail = t1.tail }
arguments_first {s = s} elements (x ∷ xs) {ps = ps} {rest = rest} is t =
    let p = splits (s x ++ flat_map (λ a. sign Comma ∷ s a) xs) t in
    let t1 = separated_first elements x xs is t (λ mid u. (elements.at_end ps mid rest u, sees_free (is_sign Comma) u)) in
    let t2 = sign_behind RightParenthesis t1.tail in
    record { mid = t2.mid; read = rw (elements.begins x (splits (s x) p.1).1, t1.read, t2.read) refl; tail = t2.tail }

another_read : {A : Type 0} {one : Reader A} {s : A → List Piece} {Is : A → Type 0} → ((a : A) (ms rest : List Mark) → one ms ≡ Some (a, rest) → Is a × Takes (s a) ms rest)
    → (a : A) (ms rest : List Mark) → another one ms ≡ Some (a, rest) → Is a × Takes (sign Comma ∷ s a) ms rest
unfolding another
another_read read a ms rest e =
    let s1 = opens e in
    let s2 = read a s1.1 rest s1.3 in
    (s2.0, sign_read Comma s1.2 then s2.1)

pub separated_read : {A : Type 0} (one : Reader A) (s : A → List Piece) (Is : A → Type 0) → ((a : A) (ms rest : List Mark) → one ms ≡ Some (a, rest) → Is a × Takes (s a) ms rest)
    → (xs : List A) (ms rest : List Mark) → separated one ms ≡ Some (xs, rest) → (xs ≢ []) × AllByRecursion Is xs × Takes (join_by s comma xs) ms rest
unfolding separated
separated_read one s Is read xs ms rest e =
    let s1 = opens e in
    let first = read s1.0 ms s1.1 s1.2 in
    let found = more_read (sees (is_sign Comma)) (another one) (λ a. sign Comma ∷ s a) Is (another_read read) _ (s1.0 ∷ []) s1.3 in
    let P : List _ → Type 0 = λ xs. (xs ≢ []) × AllByRecursion Is xs × Takes (join_by s comma xs) ms rest in
    subst P (sym found.all) ((λ e. cc), (first.0, found.each), first.1 then found.spelled)

pub arguments_read : {A : Type 0} (one : Reader A) (s : A → List Piece) (Is : A → Type 0) → ((a : A) (ms rest : List Mark) → one ms ≡ Some (a, rest) → Is a × Takes (s a) ms rest)
    → (xs : List A) (ms rest : List Mark) → arguments one ms ≡ Some (xs, rest) → AllByRecursion Is xs × Takes (join_by s comma xs ++ sign RightParenthesis ∷ []) ms rest
unfolding arguments
arguments_read one s Is read xs ms rest e =
    let P : List _ → List Mark → Type 0 = λ xs rest. AllByRecursion Is xs × Takes (join_by s comma xs ++ sign RightParenthesis ∷ []) ms rest in
    either (sees (is_sign RightParenthesis) ms) e
    (λ passes e. let s1 = opens e in closes P (tt, sign_read RightParenthesis s1.2) s1.3)
    (λ fails e.
    let s1 = opens e in
    let found = separated_read one s Is read s1.0 ms s1.1 s1.2 in
    let s2 = opens s1.3 in
    closes P (found.1, found.2 then sign_read RightParenthesis s2.2) s2.3)
