-- What is read so far begins a file.
use Rattle.std.proofs.Common.{◌≡◌, ℕ, ◌≤◌, pos, negsuc, true, List, [], ◌∷◌, ◌++◌, length, take, drop, refl, sym, ap, subst, ◌∙◌, arith, Option, Some, None, append_assoc, append-nil, take-append-drop}
use Rattle.std.proofs.lemmas.Fmt.{decimal_digit}
use Rattle.sg_kinds.specs.Values.{Bytes}
use Rattle.sg_text.specs.Bytes.{double_quote, backslash, newline}
use Rattle.sg_text.specs.Forms.{is_name}
use Rattle.sg_text.specs.Words.{keyword_of, keyword_bytes}
use Rattle.sg_text.specs.declared.words.Keyword.{Keyword}
use Rattle.sg_saved_form.specs.Files.{Raw, Branch, Whole, Quote, Flag, NoRaw, escaped, spelled, frame, file_of, IsRaw, IsFile, BeginsFile, left_parenthesis, right_parenthesis, dash}
use Rattle.sg_saved_form.specs.Machine.{Open, State, Frame, Before, Name, Minus, Digits, Text, Escape, After, End, closed, with_kid, outer, text_of}
use Rattle.sg_saved_form.proofs.Codes.{escaped-more, is_text-more}
use Rattle.sg_saved_form.proofs.Names.{keyword-bytes, longer-free}
use Rattle.sg_saved_form.proofs.Fronts.{AreOpen, IsState, closed-text, raw-more}

-- a front of what begins a file begins it
begins-front : (s t u : Bytes) → s ++ t ≡ u → BeginsFile u → BeginsFile s
begins-front s t u is begins = record {
  more = t ++ begins.more;
  file = subst IsFile (ap (λ x. x ++ begins.more) (sym is) ∙ append_assoc s t begins.more) begins.file;
}

-- a term and the ends of the open nodes
after-begins : (os : List Open) (r : Raw) → AreOpen os → IsRaw r → BeginsFile (outer os ++ spelled r)
after-begins [] r opened is = record { more = newline ∷ []; file = record { raw = r; is = is; same = append_assoc frame (spelled r) (newline ∷ []) } }
after-begins (o ∷ os) r opened is =
    begins-front (outer (o ∷ os) ++ spelled r) (right_parenthesis ∷ []) (outer os ++ spelled (closed (with_kid o r))) (sym (closed-text os o r)) (after-begins os (closed (with_kid o r)) opened.2 (opened.0, raw-more o.kids r opened.1 is))

-- a text that goes on to a term
goes-on : (s t : Bytes) (os : List Open) (r : Raw) → AreOpen os → IsRaw r → s ++ t ≡ outer os ++ spelled r → BeginsFile s
goes-on s t os r opened is same = begins-front s t (outer os ++ spelled r) same (after-begins os r opened is)

name-begins : (os : List Open) (bs : Bytes) → AreOpen os → is_name bs ≡ true → length bs ≤ 64 → (o : Option Keyword) → keyword_of bs ≡ o → BeginsFile (outer os ++ bs)
name-begins os bs opened name short None free =
    goes-on (outer os ++ bs) (left_parenthesis ∷ right_parenthesis ∷ []) os (Branch bs NoRaw) opened (record { named = name; short = short; free = free }, tt) (append_assoc (outer os) bs (left_parenthesis ∷ right_parenthesis ∷ []))
name-begins os bs opened name short (Some k) word =
    let is = keyword-bytes bs k word in
    let longer = longer-free k in
    subst (λ x. BeginsFile (outer os ++ x)) is
    (goes-on (outer os ++ keyword_bytes k) (95 ∷ left_parenthesis ∷ right_parenthesis ∷ []) os (Branch (keyword_bytes k ++ 95 ∷ []) NoRaw) opened (record { named = longer.1; short = longer.2; free = longer.0 }, tt) (simp append_assoc))

frame-begins : (k : ℕ) → BeginsFile (take k frame)
frame-begins k = begins-front (take k frame) (drop k frame) (frame ++ []) (take-append-drop k frame ∙ sym (append-nil frame)) (goes-on frame (spelled (Flag true)) [] (Flag true) tt tt refl)

-- the bytes that were read begin a file
pub begins : (σ : State) → IsState σ → BeginsFile (text_of σ)
begins (Frame k) is = frame-begins k
begins (Before os) is = goes-on (outer os) (48 ∷ []) os (Whole (pos 0)) is refl (ap (λ x. outer os ++ x) (sym (decimal_digit 0 (omega arith))))
begins (Name os bs) is = name-begins os bs is.0 is.1 is.2 (keyword_of bs) refl
begins (Minus os) is = goes-on (outer os ++ dash ∷ []) (49 ∷ []) os (Whole (negsuc 0)) is refl (append_assoc (outer os) (dash ∷ []) (49 ∷ []) ∙ ap (λ x. outer os ++ dash ∷ x) (sym (decimal_digit 1 (omega arith))))
begins (Digits os z) is = after-begins os (Whole z) is.0 is.1
begins (Text os s) is = goes-on (outer os ++ double_quote ∷ escaped s) (double_quote ∷ []) os (Quote s) is.0 is.1 (append_assoc (outer os) (double_quote ∷ escaped s) (double_quote ∷ []))
begins (Escape os s) is =
    goes-on (outer os ++ double_quote ∷ (escaped s ++ backslash ∷ [])) (backslash ∷ double_quote ∷ []) os (Quote (s ++ backslash ∷ [])) is.0 (is_text-more s backslash is.1 refl)
    (append_assoc (outer os) (double_quote ∷ (escaped s ++ backslash ∷ [])) (backslash ∷ double_quote ∷ []) ∙ ap (λ x. outer os ++ double_quote ∷ x) (append_assoc (escaped s) (backslash ∷ []) (backslash ∷ double_quote ∷ []) ∙ sym (ap (λ x. x ++ double_quote ∷ []) (escaped-more s backslash) ∙ append_assoc (escaped s) (backslash ∷ backslash ∷ []) (double_quote ∷ []))))
begins (After os r) is = after-begins os r is.0 is.1
begins (End r) is = record { more = []; file = record { raw = r; is = is; same = append-nil (file_of r) } }
