-- The language of the workload: programs of declarations and prints, where a print of an undeclared name is an error.
use Rattle.std.specs.Prelude.{ℕ, List, [], ◌∷◌, ◌++◌, flat_map, codes}

-- its specification, line by line
abbrev pub text_lines : List (List ℕ)
text_lines =
    codes "root prog;"
    ∷ codes "list stmts;"
    ∷ codes "prog : Prog(stmts);"
    ∷ codes "stmts : NoStmts() | Stmts(stmt stmts);"
    ∷ codes "stmt : Empty() | Decl(ID INT) | Print(ID);"
    ∷ codes "env : NoEnv() | Bind(ID INT env);"
    ∷ codes "ID : < \"[a-z][a-z0-9]*\" >;"
    ∷ codes "NUM : < \"[0-9]+\" >;"
    ∷ codes "WHITESPACE : < \"[ \\n]+\" >;"
    ∷ codes "stmts { inherited env e; synthesized INT errs; };"
    ∷ codes "stmt { inherited env e; synthesized env out; synthesized INT errs; };"
    ∷ codes "INT look(ID k, env e) { with (e) ( NoEnv() : 0 - 1, Bind(n, v, r) : n == k ? v : look(k, r) ) };"
    ∷ codes "prog : Prog { stmts.e = NoEnv(); };"
    ∷ codes "stmts : NoStmts { $$.errs = 0; };"
    ∷ codes "stmts : Stmts { stmt.e = $$.e; stmts$2.e = stmt.out; $$.errs = stmt.errs + stmts$2.errs; };"
    ∷ codes "stmt : Empty { $$.out = $$.e; $$.errs = 0; };"
    ∷ codes "stmt : Decl { $$.out = Bind(ID.value, INT.value, $$.e); $$.errs = 0; };"
    ∷ codes "stmt : Print { local INT val; val = look(ID.value, $$.e); $$.out = $$.e; $$.errs = val < 0 ? 1 : 0; };"
    ∷ codes "prog : Prog [ @ : @ \"%n\" stmts.errs \" errors\" ];"
    ∷ codes "stmts : NoStmts [ @ ::= ];"
    ∷ codes "stmts : Stmts [ @ ::= @ [ \"%n\" ] @ ];"
    ∷ codes "stmt : Empty [ @ ::= \"<stmt>\" ];"
    ∷ codes "stmt : Decl [ @ ::= \"let \" ^ \" = \" ^ ];"
    ∷ codes "stmt : Print [ @ ::= \"print \" ^ \"  -- \" val ];"
    ∷ codes "S { synthesized stmt t; };"
    ∷ codes "L { synthesized stmts t; };"
    ∷ codes "S ::= ('let' ID '=' NUM) { Decl(ID.value, STRtoINT(NUM.value)) } | ('print' ID) { Print(ID.value) };"
    ∷ codes "L ::= () { NoStmts() } | (S ';' L) { S.t :: L$2.t };"
    ∷ codes "stmt ~ S.t;"
    ∷ codes "stmts ~ L.t;"
    ∷ []

-- each line ends with a newline
abbrev pub lines_text : List ℕ
lines_text = flat_map (λ line. line ++ 10 ∷ []) text_lines
