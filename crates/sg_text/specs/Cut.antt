-- The declarations of a list of tokens.
use Rattle.std.specs.Prelude.{◌≡◌, ◌<◌, ◌≤◌, length, take, drop, ℕ, zero, suc, ◌-◌, Bool, true, false, if◌then◌else◌, List, [], ◌∷◌}
use Rattle.sg_text.specs.declared.tokens.Kind.{Kind}
use Rattle.sg_text.specs.declared.tokens.Kind.TheVariants.{Symbol}
use Rattle.sg_text.specs.declared.tokens.Token.{Token}
use Rattle.sg_text.specs.declared.symbols.Symbol.TheVariants.{Semicolon, LeftParenthesis, RightParenthesis, LeftBracket, RightBracket, LeftBrace, RightBrace}

-- the counter of open brackets after a token; a bracket that closes takes one where there is one
abbrev pub open_after : ℕ → Kind → ℕ
open_after n (Symbol LeftParenthesis) = suc n
open_after n (Symbol LeftBracket) = suc n
open_after n (Symbol LeftBrace) = suc n
open_after n (Symbol RightParenthesis) = n - 1
open_after n (Symbol RightBracket) = n - 1
open_after n (Symbol RightBrace) = n - 1
open_after n _ = n

-- a `;` outside all brackets ends a declaration
abbrev pub ends : ℕ → Kind → Bool
ends zero (Symbol Semicolon) = true
ends n _ = false

-- the token as the first of the first declaration; a declaration of its own where nothing follows
abbrev pub joined : Token → List (List Token) → List (List Token)
joined t [] = (t ∷ []) ∷ []
joined t (d ∷ ds) = (t ∷ d) ∷ ds

-- the declarations of the tokens, where n brackets are open before them; the last one may lack its `;`
abbrev pub cut_from : ℕ → List Token → List (List Token)
cut_from n [] = []
cut_from n (t ∷ ts) =
    let rest = cut_from (open_after n t.kind) ts in if ends n t.kind then (t ∷ []) ∷ rest else joined t rest

-- the declarations of the tokens
abbrev pub cut : List Token → List (List Token)
cut ts = cut_from 0 ts

-- the first declaration has the first n tokens, and the others are those of the tokens behind them
pub record CutsFirst (n : ℕ) (ts : List Token) : Type 0 where
  pub some : 0 < n
  pub within : n ≤ length ts
  pub first : cut ts ≡ take n ts ∷ cut (drop n ts)

-- how many tokens the first declaration has, where n brackets are open before it
abbrev pub declaration_len : ℕ → List Token → ℕ
declaration_len n [] = 0
declaration_len n (t ∷ ts) =
    let rest = declaration_len (open_after n t.kind) ts in if ends n t.kind then 1 else suc rest
