-- Texts that are written piece by piece
use Rattle.std.proofs.Common.{◌≡◌, ◌<◌, ◌≤◌, ◌+◌, ℕ, List, [], ◌∷◌, ◌++◌, Bool, true, false, if◌then◌else◌, length, take, map, get_or, refl, sym, ap, ◌∙◌, append_assoc, append-nil, take_all}
use Rattle.std.proofs.lemmas.List.{take_more, map-append}
use Rattle.std.specs.List.{flat_map}
use Rattle.std.specs.Prelude.{◌==◌, ◌||◌}
use Rattle.std.proofs.lemmas.Grind.{flat_map-append}
use Rattle.sg_text.specs.Bytes.{newline, space, double_quote, backslash, letter_n}
use Rattle.sg_script.specs.Spelled.{escaped, string_of}

escaped_step : (b : ℕ) (l xs ys : List ℕ) (n q : Bool) → l ≡ xs ++ ys → (if n then backslash ∷ letter_n ∷ l else (if q then backslash ∷ b ∷ l else b ∷ l))
    ≡ (if n then backslash ∷ letter_n ∷ xs else (if q then backslash ∷ b ∷ xs else b ∷ xs)) ++ ys
escaped_step b l xs ys true q e = ap (λ m. backslash ∷ letter_n ∷ m) e
escaped_step b l xs ys false true e = ap (λ m. backslash ∷ b ∷ m) e
escaped_step b l xs ys false false e = ap (λ m. b ∷ m) e

escaped-append : (xs ys : List ℕ) → escaped (xs ++ ys) ≡ escaped xs ++ escaped ys
escaped-append [] ys = refl
escaped-append (b ∷ xs) ys = escaped_step b (escaped (xs ++ ys)) (escaped xs) (escaped ys) (b == newline) (b == double_quote || b == backslash) (escaped-append xs ys)

-- one byte more between the quotes
pub escaped_more : (first old new text : List ℕ) (k b : ℕ) → k < length text → b ≡ get_or text k 0 → old ≡ first ++ escaped (take k text) → new ≡ old ++ escaped (b ∷ []) → new ≡ first ++ escaped (take (k + 1) text)
escaped_more first old new text k b low is so_far more =
    more ∙ ap (λ l. l ++ escaped (b ∷ [])) so_far ∙ append_assoc first (escaped (take k text)) (escaped (b ∷ []))
    ∙ ap (λ x. first ++ (escaped (take k text) ++ escaped (x ∷ []))) is
    ∙ ap (λ l. first ++ l) (sym (escaped-append (take k text) (get_or text k 0 ∷ [])) ∙ ap escaped (sym (take_more text k 0 low)))

-- and the quote behind them
pub string_whole : (old mid opened new text : List ℕ) (k : ℕ) → length text ≤ k → opened ≡ old ++ double_quote ∷ [] → mid ≡ opened ++ escaped (take k text) → new ≡ mid ++ double_quote ∷ [] → new ≡ old ++ string_of text
string_whole old mid opened new text k all begins between ends =
    ends ∙ ap (λ l. l ++ double_quote ∷ []) between ∙ ap (λ l. (l ++ escaped (take k text)) ++ double_quote ∷ []) begins
    ∙ append_assoc (old ++ double_quote ∷ []) (escaped (take k text)) (double_quote ∷ []) ∙ append_assoc old (double_quote ∷ []) (escaped (take k text) ++ double_quote ∷ [])
    ∙ ap (λ l. old ++ (double_quote ∷ (escaped l ++ double_quote ∷ []))) (take_all k text all)

-- one name more
abbrev pub named : List ℕ → List ℕ
named name = space ∷ string_of name

pub names_more : {A : Type 0} (view : A → List ℕ) (first old mid new : List ℕ) (xs : List A) (k : ℕ) (x : A) → k < length xs → x ≡ get_or xs k x → old ≡ first ++ flat_map named (map view (take k xs))
    → mid ≡ old ++ space ∷ [] → new ≡ mid ++ string_of (view x) → new ≡ first ++ flat_map named (map view (take (k + 1) xs))
names_more view first old mid new xs k x low is so_far blank more =
    let front = map view (take k xs) in
    let seen : map view (take (k + 1) xs) ≡ front ++ view x ∷ [] = ap (map view) (take_more xs k x low) ∙ map-append view (take k xs) (get_or xs k x ∷ []) ∙ ap (λ y. front ++ view y ∷ []) (sym is) in
    let flat : flat_map named (map view (take (k + 1) xs)) ≡ flat_map named front ++ named (view x) =
    ap (flat_map named) seen ∙ flat_map-append named front (view x ∷ []) ∙ ap (λ l. flat_map named front ++ l) (append-nil (named (view x))) in
    more ∙ ap (λ l. l ++ string_of (view x)) (blank ∙ ap (λ l. l ++ space ∷ []) so_far)
    ∙ append_assoc (first ++ flat_map named front) (space ∷ []) (string_of (view x)) ∙ append_assoc first (flat_map named front) (named (view x)) ∙ ap (λ l. first ++ l) (sym flat)
