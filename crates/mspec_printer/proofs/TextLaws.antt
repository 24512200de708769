-- The texts of printed parts.
use Rattle.std.proofs.Math.Seq.{take-length}
use Rattle.std.specs.Prelude.{◌==◌}
use Rattle.std.proofs.Common.{◌≡◌, ◌≤◌, ◌-◌, ℕ, false, length, get_or, take, drop, arith, List, [], ◌∷◌, ◌++◌, map, sym, ap, ◌∙◌, append_assoc, append-nil}
use Rattle.std.specs.Prelude.{codes, None, OnOk, Option, Result, Ok, Err}
use Rattle.std.specs.List.{flat_map}
use Rattle.mspec_tree.specs.declared.words.Key.{Key}
use Rattle.mspec_tree.specs.declared.words.Lit.{Lit}
use Rattle.mspec_tree.specs.declared.words.Simple.{Simple}
use Rattle.mspec_tree.specs.declared.exprs.Expr.{Expr}
use Rattle.mspec_tree.specs.declared.exprs.Ref.{Ref}
use Rattle.mspec_tree.specs.declared.fields.Body.{Body, out-Body, out-roll-Body, roll-Body}
use Rattle.mspec_tree.specs.declared.fields.Body.TheOpen.{Body-F}
use Rattle.mspec_tree.specs.declared.fields.Body.TheOpen as body
use Rattle.mspec_tree.specs.declared.fields.Case.{Case, out-Case}
use Rattle.mspec_tree.specs.declared.fields.Field.{Field, out-Field}
use Rattle.mspec_tree.specs.declared.defs.Constant.{Constant}
use Rattle.mspec_tree.specs.declared.defs.Def.{Def}
use Rattle.mspec_tree.specs.declared.defs.DefBody.{DefBody}
use Rattle.mspec_tree.specs.declared.defs.DefBody.TheVariants as def
use Rattle.mspec_tree.specs.declared.defs.Param.{Param}
use Rattle.mspec_lexer.specs.declared.tokens.Symbol.TheVariants.{Comma, RightBracket}
use Rattle.mspec_lexer.specs.Tokens.{Piece, text_of}
use Rattle.mspec_printer.specs.Printed.{Writes, attributes, blank, block, body_words, case, constant, definition, each_behind, expr, field, field_head, in_brackets, in_parentheses, inner, key_in_quotes, keys, kind_words, line, line_end, listed, lit, mark, member, member_by, cases_of, named, order, param, quoted, ref, simple, spaced, unless_empty, word}
use Rattle.mspec_printer.proofs.WriteLaws.{text_of_all, text_of_behind, text_of_both}

pub quoted_text : (p : List Piece) → text_of (quoted p) ≡ 39 ∷ (text_of p ++ 39 ∷ [])
quoted_text p = simp text_of_both

pub listed_text : {A : Type 0} (f : A → List Piece) (first : A) (more : List A) → text_of (listed (map f (first ∷ more))) ≡ text_of (f first) ++ flat_map (λ a. 44 ∷ 32 ∷ text_of (f a)) more
listed_text f first more =
    text_of_both (f first) (each_behind (mark Comma ++ blank) (map f more))
    ∙ ap (λ (l : List ℕ). text_of (f first) ++ l) (text_of_behind f more)

pub parentheses_text : {A : Type 0} (f : A → List Piece) (first : A) (more : List A) → text_of (unless_empty (λ some. in_parentheses (listed (map f some))) (first ∷ more)) ≡ 40 ∷ (text_of (listed (map f (first ∷ more))) ++ 41 ∷ [])
parentheses_text f first more = text_rest (listed (map f (first ∷ more)))
  where
    text_rest : (p : List Piece) → text_of (in_parentheses p) ≡ 40 ∷ (text_of p ++ 41 ∷ [])
    text_rest p = simp text_of_both

pub keys_text : (first : Key) (more : List Key) → text_of (keys (first ∷ more)) ≡ text_of (listed (map (λ k. quoted (key_in_quotes k)) (first ∷ more))) ++ 32 ∷ []
keys_text first more = text_of_both (listed (map (λ k. quoted (key_in_quotes k)) (first ∷ more))) blank

pub attributes_text : (first : Lit) (more : List Lit) → text_of (attributes (first ∷ more)) ≡ 32 ∷ 91 ∷ (text_of (listed (map (λ value. quoted (lit value)) (first ∷ more))) ++ 93 ∷ [])
attributes_text first more = text_rest (listed (map (λ value. quoted (lit value)) (first ∷ more)))
  where
    text_rest : (p : List Piece) → text_of (blank ++ in_brackets p) ≡ 32 ∷ 91 ∷ (text_of p ++ 93 ∷ [])
    text_rest p = ap (λ (l : List ℕ). 32 ∷ 91 ∷ l) (text_of_both p (mark RightBracket))

pub constant_text : (c : Constant) → text_of (constant c) ≡ 32 ∷ 32 ∷ 91 ∷ (text_of (quoted (lit c.value)) ++ (32 ∷ (c.name ++ (text_of (attributes c.attrs) ++ 93 ∷ 10 ∷ []))))
constant_text c = simp (text_of_both, append_assoc, append-nil)

pub param_text : (p : Param) → text_of (param p) ≡ text_of (ref p.kind) ++ (32 ∷ p.name)
param_text p = simp (text_of_both, append_assoc, append-nil)

-- ---- fields

pub simple_text : (name : List ℕ) (of : Ref) → text_of (spaced (body_words name (body.Simple of))) ≡ codes "simple " ++ (text_of (ref of) ++ (32 ∷ name))
simple_text name of = simp (text_of_both, append_assoc, append-nil)

pub discriminator_text : (name : List ℕ) (of : Ref) → text_of (spaced (body_words name (body.Discriminator of))) ≡ codes "discriminator " ++ (text_of (ref of) ++ (32 ∷ name))
discriminator_text name of = simp (text_of_both, append_assoc, append-nil)

pub padding_text : (name : List ℕ) (of : Simple) (value : Lit) (e : Expr) → text_of (spaced (body_words name (body.Padding of value e))) ≡ codes "padding " ++ (text_of (simple of) ++ (32 ∷ (name ++ (32 ∷ (text_of (quoted (lit value)) ++ (32 ∷ text_of (quoted (expr e))))))))
padding_text name of value e = parts (simple of) (quoted (lit value)) (quoted (expr e))
  where
    parts : (p q r : List Piece) → text_of (spaced (word (codes "padding") ∷ p ∷ word name ∷ q ∷ r ∷ [])) ≡ codes "padding " ++ (text_of p ++ (32 ∷ (name ++ (32 ∷ (text_of q ++ (32 ∷ text_of r))))))
    parts p q r = simp (text_of_both, append_assoc, append-nil)

pub reserved_text : (name : List ℕ) (of : Simple) (value : Lit) → text_of (spaced (body_words name (body.Reserved of value))) ≡ codes "reserved " ++ (text_of (simple of) ++ (32 ∷ text_of (quoted (lit value))))
reserved_text name of value = parts (simple of) (quoted (lit value))
  where
    parts : (p q : List Piece) → text_of (spaced (word (codes "reserved") ∷ p ∷ q ∷ [])) ≡ codes "reserved " ++ (text_of p ++ (32 ∷ text_of q))
    parts p q = simp (text_of_both, append_assoc, append-nil)

-- a word, a type, a name and an expression
computed : (first : List ℕ) (name : List ℕ) (p q : List Piece) → text_of (spaced (word first ∷ p ∷ word name ∷ q ∷ [])) ≡ first ++ (32 ∷ (text_of p ++ (32 ∷ (name ++ (32 ∷ text_of q)))))
computed first name p q = simp (text_of_both, append_assoc, append-nil)

pub implicit_text : (name : List ℕ) (of : Ref) (e : Expr) → text_of (spaced (body_words name (body.Implicit of e))) ≡ codes "implicit " ++ (text_of (ref of) ++ (32 ∷ (name ++ (32 ∷ text_of (quoted (expr e))))))
implicit_text name of e = computed (codes "implicit") name (ref of) (quoted (expr e))

pub virtual_text : (name : List ℕ) (of : Ref) (e : Expr) → text_of (spaced (body_words name (body.Virtual of e))) ≡ codes "virtual " ++ (text_of (ref of) ++ (32 ∷ (name ++ (32 ∷ text_of (quoted (expr e))))))
virtual_text name of e = computed (codes "virtual") name (ref of) (quoted (expr e))

pub optional_text : (name : List ℕ) (of : Ref) (e : Expr) → text_of (spaced (body_words name (body.Optional of e))) ≡ codes "optional " ++ (text_of (ref of) ++ (32 ∷ (name ++ (32 ∷ text_of (quoted (expr e))))))
optional_text name of e = computed (codes "optional") name (ref of) (quoted (expr e))

array_text : (name how : List ℕ) (p q : List Piece) → text_of (spaced (word (codes "array") ∷ p ∷ word name ∷ word how ∷ q ∷ [])) ≡ codes "array " ++ (text_of p ++ (32 ∷ (name ++ (32 ∷ (how ++ (32 ∷ text_of q))))))
array_text name how p q = simp (text_of_both, append_assoc, append-nil)

pub count_text : (name : List ℕ) (of : Ref) (e : Expr) → text_of (spaced (body_words name (body.CountArray of e))) ≡ codes "array " ++ (text_of (ref of) ++ (32 ∷ (name ++ (codes " count " ++ text_of (quoted (expr e))))))
count_text name of e = array_text name (codes "count") (ref of) (quoted (expr e))

pub length_text : (name : List ℕ) (of : Ref) (e : Expr) → text_of (spaced (body_words name (body.LengthArray of e))) ≡ codes "array " ++ (text_of (ref of) ++ (32 ∷ (name ++ (codes " length " ++ text_of (quoted (expr e))))))
length_text name of e = array_text name (codes "length") (ref of) (quoted (expr e))

pub switch_text : (name : List ℕ) (ns : List (List ℕ)) (cases : List Case) → text_of (spaced (body_words name (body.Switch ns cases))) ≡ codes "typeSwitch " ++ text_of (listed (map word ns))
switch_text name ns cases = parts (listed (map word ns))
  where
    parts : (p : List Piece) → text_of (spaced (word (codes "typeSwitch") ∷ p ∷ [])) ≡ codes "typeSwitch " ++ text_of p
    parts p = simp (text_of_both, append_assoc, append-nil)

pub field_text : (f : Field) → text_of (field 3 f) ≡ codes "      [" ++ (text_of (field_head f) ++ (93 ∷ 10 ∷ []))
field_text f = parts (field_head f)
  where
    parts : (p : List Piece) → text_of (line 3 (in_brackets p)) ≡ codes "      [" ++ (text_of p ++ (93 ∷ 10 ∷ []))
    parts p =
        ap (λ (l : List ℕ). codes "      [" ++ l)
        (ap text_of (append_assoc p (mark RightBracket) line_end) ∙ text_of_both p (mark RightBracket ++ line_end))

pub member_text : (f : Field) → text_of (field 1 f) ≡ codes "  [" ++ (text_of (field_head f) ++ (93 ∷ 10 ∷ []))
member_text f = parts (field_head f)
  where
    parts : (p : List Piece) → text_of (line 1 (in_brackets p)) ≡ codes "  [" ++ (text_of p ++ (93 ∷ 10 ∷ []))
    parts p =
        ap (λ (l : List ℕ). codes "  [" ++ l)
        (ap text_of (append_assoc p (mark RightBracket) line_end) ∙ text_of_both p (mark RightBracket ++ line_end))

-- ---- blocks

pub case_text : (c : Case) → text_of (case 2 c) ≡ codes "    [" ++ (text_of (keys (out-Case c).keys) ++ ((out-Case c).name ++ (10 ∷ (flat_map (λ f. text_of (field 3 f)) (out-Case c).fields ++ codes "    ]\n"))))
case_text c = parts (keys (out-Case c).keys) (out-Case c).name (flat_map (λ f. field 3 f) (out-Case c).fields)
    ∙ ap (λ (l : List ℕ). codes "    [" ++ (text_of (keys (out-Case c).keys) ++ ((out-Case c).name ++ (10 ∷ (l ++ codes "    ]\n"))))) (text_of_all (λ f. field 3 f) (out-Case c).fields)
  where
    parts : (p : List Piece) (name : List ℕ) (q : List Piece) → text_of (block 2 (p ++ word name) q) ≡ codes "    [" ++ (text_of p ++ (name ++ (10 ∷ (text_of q ++ codes "    ]\n"))))
    parts p name q = simp (text_of_both, append_assoc, append-nil)

pub switch_block_text : (f : Field) (cases : List Case) → text_of (block 1 (field_head f) (flat_map (λ c. case 2 c) cases)) ≡ codes "  [" ++ (text_of (field_head f) ++ (10 ∷ (flat_map (λ c. text_of (case 2 c)) cases ++ codes "  ]\n")))
switch_block_text f cases = parts (field_head f) (flat_map (λ c. case 2 c) cases)
    ∙ ap (λ (l : List ℕ). codes "  [" ++ (text_of (field_head f) ++ (10 ∷ (l ++ codes "  ]\n")))) (text_of_all (λ c. case 2 c) cases)
  where
    parts : (p q : List Piece) → text_of (block 1 p q) ≡ codes "  [" ++ (text_of p ++ (10 ∷ (text_of q ++ codes "  ]\n")))
    parts p q =
        let end = line 1 (mark RightBracket) in
        ap (λ (l : List ℕ). codes "  [" ++ l)
        (text_of_both (p ++ line_end) (q ++ end)
        ∙ ap (λ (l : List ℕ). l ++ text_of (q ++ end)) (text_of_both p line_end)
        ∙ append_assoc (text_of p) (10 ∷ []) (text_of (q ++ end))
        ∙ ap (λ (l : List ℕ). text_of p ++ (10 ∷ l)) (text_of_both q end))

kind_named : (b : DefBody) (p : List Piece) → text_of (spaced (kind_words b ++ p ∷ [])) ≡ (text_of (spaced (kind_words b)) ++ 32 ∷ []) ++ text_of p
kind_named (def.Plain fields) p = simp (text_of_both, append_assoc, append-nil)
kind_named (def.Switched fields) p = simp (text_of_both, append_assoc, append-nil)
kind_named (def.DataIo switch) p = simp (text_of_both, append_assoc, append-nil)
kind_named (def.Enum base constants) p = parts (simple base)
  where
    parts : (q : List Piece) → text_of (spaced (word (codes "enum") ∷ q ∷ p ∷ [])) ≡ (text_of (spaced (word (codes "enum") ∷ q ∷ [])) ++ 32 ∷ []) ++ text_of p
    parts q =
        ap (λ (l : List ℕ). codes "enum " ++ l)
        (text_of_both q (blank ++ (p ++ []))
        ∙ ap (λ (l : List Piece). text_of q ++ (32 ∷ text_of l)) (append-nil p)
        ∙ sym (append_assoc (text_of q) (32 ∷ []) (text_of p)))
        ∙ ap (λ (l : List Piece). ((codes "enum " ++ text_of l) ++ 32 ∷ []) ++ text_of p) (sym (append-nil q))

pub definition_text : (d : Def) → text_of (definition d) ≡ 91 ∷ ((text_of (spaced (kind_words d.body)) ++ 32 ∷ []) ++ (text_of (named d) ++ (text_of (order d.order) ++ (10 ∷ (text_of (inner d.body) ++ codes "]\n")))))
definition_text d = parts (spaced (kind_words d.body ++ (named d ∷ []))) (order d.order) (inner d.body)
    ∙ ap (λ (l : List ℕ). 91 ∷ (l ++ (text_of (order d.order) ++ (10 ∷ (text_of (inner d.body) ++ codes "]\n"))))) (kind_named d.body (named d))
    ∙ ap (λ (l : List ℕ). 91 ∷ l) (append_assoc (text_of (spaced (kind_words d.body)) ++ 32 ∷ []) (text_of (named d)) (text_of (order d.order) ++ (10 ∷ (text_of (inner d.body) ++ codes "]\n"))))
  where
    parts : (p q r : List Piece) → text_of (block 0 (p ++ q) r) ≡ 91 ∷ (text_of p ++ (text_of q ++ (10 ∷ (text_of r ++ codes "]\n"))))
    parts p q r = simp (text_of_both, append_assoc, append-nil)

-- ---- as the code has them

pub listed_by : {A : Type 0} (f : A → List Piece) (items : List A) (d : A) → 1 ≤ length items → text_of (listed (map f items)) ≡ text_of (f (get_or items 0 d)) ++ flat_map (λ a. 44 ∷ 32 ∷ text_of (f a)) (take (length items - 1) (drop 1 items))
listed_by f [] d h = absurd (omega arith)
listed_by f (a ∷ more) d h =
    let len : length (a ∷ more) - 1 ≡ length more = omega arith in
    listed_text f a more
    ∙ ap (λ (l : List _). text_of (f a) ++ flat_map (λ b. 44 ∷ 32 ∷ text_of (f b)) l) (sym (ap (λ n. take n more) len ∙ take-length more))

pub parentheses_by : {A : Type 0} (f : A → List Piece) (items : List A) → (length items == 0) ≡ false → text_of (unless_empty (λ some. in_parentheses (listed (map f some))) items) ≡ 40 ∷ (text_of (listed (map f items)) ++ 41 ∷ [])
parentheses_by f [] h = cc
parentheses_by f (first ∷ more) h = parentheses_text f first more

pub keys_by : (items : List Key) → (length items == 0) ≡ false → text_of (keys items) ≡ text_of (listed (map (λ k. quoted (key_in_quotes k)) items)) ++ 32 ∷ []
keys_by [] h = cc
keys_by (first ∷ more) h = keys_text first more

pub attributes_by : (items : List Lit) → (length items == 0) ≡ false → text_of (attributes items) ≡ 32 ∷ 91 ∷ (text_of (listed (map (λ value. quoted (lit value)) items)) ++ 93 ∷ [])
attributes_by [] h = cc
attributes_by (first ∷ more) h = attributes_text first more

pub head_text : (f : Field) → text_of (field_head f) ≡ text_of (spaced (body_words (out-Field f).name (out-Body (out-Field f).body))) ++ text_of (order (out-Field f).order)
head_text f = text_of_both (spaced (body_words (out-Field f).name (out-Body (out-Field f).body))) (order (out-Field f).order)

pub member_none : (f : Field) → None ≡ cases_of (out-Body (out-Field f).body) → text_of (member f) ≡ codes "  [" ++ (text_of (field_head f) ++ (93 ∷ 10 ∷ []))
member_none f h = ap (λ (cs : Option (List Case)). text_of (member_by cs f)) (sym h) ∙ member_text f

-- ---- what was added

pub as_pieces : {T E : Type 0} (r : Result T E) (old new bytes : List ℕ) (pieces : List Piece) → text_of pieces ≡ bytes → OnOk r (new ≡ old ++ bytes) → Writes r old new pieces
as_pieces (Ok x) old new bytes pieces e h = h ∙ ap (λ (l : List ℕ). old ++ l) (sym e)
as_pieces (Err x) old new bytes pieces e h = tt

pub at_last : {T E : Type 0} (r : Result T E) (old middle new first second : List ℕ) → middle ≡ old ++ first → OnOk r (new ≡ middle ++ second) → OnOk r (new ≡ old ++ (first ++ second))
at_last (Ok x) old middle new first second h k = k ∙ ap (λ (l : List ℕ). l ++ second) h ∙ append_assoc old first second
at_last (Err x) old middle new first second h k = tt

pub reserved_in_parts : (name : List ℕ) (of : Simple) (value : Lit) → text_of (spaced (body_words name (body.Reserved of value))) ≡ (codes "reserved " ++ (text_of (simple of) ++ (32 ∷ []))) ++ text_of (quoted (lit value))
reserved_in_parts name of value =
    reserved_text name of value
    ∙ ap (λ (l : List ℕ). codes "reserved " ++ l) (sym (append_assoc (text_of (simple of)) (32 ∷ []) (text_of (quoted (lit value)))))

-- what stands in a field whose body is of this variant
pub body_by : (name : List ℕ) (b v : Body) (l : Body-F Body Case Field) (bytes : List ℕ) → b ≡ v → roll-Body l ≡ v → text_of (spaced (body_words name l)) ≡ bytes → text_of (spaced (body_words name (out-Body b))) ≡ bytes
body_by name b v l bytes h rolls text =
    ap (λ (x : Body-F Body Case Field). text_of (spaced (body_words name x))) (ap out-Body (h ∙ sym rolls) ∙ out-roll-Body l) ∙ text
