-- A text is of plain lines in one way.
use Rattle.std.proofs.Common.{◌≡◌, ◌≢◌, ◌<◌, ℕ, List, [], ◌∷◌, ◌++◌, refl, sym, ◌∙◌, append_assoc, codes, arith, lit<}
use Rattle.std.specs.List.{AllByRecursion}
use Rattle.mspec_listings.specs.Listings.{Line, Leaf, Chosen, line_text, text_of}
use Rattle.mspec_listings.specs.Plain.{ArePlain, IsPlain, IsSolid}

abbrev Without : ℕ → List ℕ → Type 0
Without mark bytes = AllByRecursion (λ b. b ≢ mark) bytes

-- what stands before a mark, and what behind it
cut_at : (mark : ℕ) (x y a b : List ℕ) → Without mark x → Without mark y → x ++ mark ∷ a ≡ y ++ mark ∷ b → (x ≡ y) × (a ≡ b)
cut_at mark [] [] a b h k e = (refl, cc)
cut_at mark [] (c ∷ y) a b h k e = absurd (k.0 (cc))
cut_at mark (c ∷ x) [] a b h k e = absurd (h.0 (cc))
cut_at mark (c ∷ x) (c' ∷ y) a b h k e =
    let first : c ≡ c' = cc in
    let rest : x ++ mark ∷ a ≡ y ++ mark ∷ b = cc in
    let both = cut_at mark x y a b h.1 k.1 rest in
    let left : x ≡ y = both.0 in
    (cc, both.1)

no_blank : (bytes : List ℕ) → IsSolid bytes → Without 32 bytes
no_blank [] h = tt
no_blank (b ∷ bytes) h = (h.0.0, no_blank bytes h.1)

no_feed : (bytes : List ℕ) → IsSolid bytes → Without 10 bytes
no_feed [] h = tt
no_feed (b ∷ bytes) h = (h.0.1, no_feed bytes h.1)

-- a line and what follows it
ahead : (path mid value rest : List ℕ) → (path ++ (mid ++ (value ++ codes "\n"))) ++ rest ≡ path ++ (mid ++ (value ++ 10 ∷ rest))
ahead path mid value rest = simp append_assoc

parts_from : (mark mark' : ℕ) (path path' value value' a b : List ℕ) → IsSolid path → IsSolid path' → IsSolid value → IsSolid value'
    → path ++ 32 ∷ mark ∷ 32 ∷ (value ++ 10 ∷ a) ≡ path' ++ 32 ∷ mark' ∷ 32 ∷ (value' ++ 10 ∷ b)
    → (path ≡ path') × (mark ≡ mark') × (value ≡ value') × (a ≡ b)
parts_from mark mark' path path' value value' a b p q v w e =
    let front = cut_at 32 path path' (mark ∷ 32 ∷ (value ++ 10 ∷ a)) (mark' ∷ 32 ∷ (value' ++ 10 ∷ b)) (no_blank path p) (no_blank path' q) e in
    let behind = front.1 in
    let rest : value ++ 10 ∷ a ≡ value' ++ 10 ∷ b = cc in
    let back = cut_at 10 value value' a b (no_feed value v) (no_feed value' w) rest in
    (front.0, cc, back.0, back.1)

other_mark : (m n : ℕ) → m ≡ n → n < m → ⊥
other_mark m n e h = omega arith

one_line : (x y : Line) (a b : List ℕ) → IsPlain x → IsPlain y → line_text x ++ a ≡ line_text y ++ b → (x ≡ y) × (a ≡ b)
one_line (Leaf path value) (Leaf path' value') a b p q e =
    let parts = parts_from 61 61 path path' value value' a b p.0 q.0 p.1.0 q.1.0 (sym (ahead path (codes " = ") value a) ∙ e ∙ ahead path' (codes " = ") value' b) in
    let one = parts.0 in
    let two = parts.2 in
    (cc, parts.3)
one_line (Leaf path value) (Chosen path' case) a b p q e =
    let parts = parts_from 61 58 path path' value case a b p.0 q.0 p.1.0 q.1 (sym (ahead path (codes " = ") value a) ∙ e ∙ ahead path' (codes " : ") case b) in
    absurd (other_mark 61 58 parts.1 (lit< tt))
one_line (Chosen path case) (Leaf path' value) a b p q e =
    let parts = parts_from 58 61 path path' case value a b p.0 q.0 p.1 q.1.0 (sym (ahead path (codes " : ") case a) ∙ e ∙ ahead path' (codes " = ") value b) in
    absurd (other_mark 61 58 (sym parts.1) (lit< tt))
one_line (Chosen path case) (Chosen path' case') a b p q e =
    let parts = parts_from 58 58 path path' case case' a b p.0 q.0 p.1 q.1 (sym (ahead path (codes " : ") case a) ∙ e ∙ ahead path' (codes " : ") case' b) in
    let one = parts.0 in
    let two = parts.2 in
    (cc, parts.3)

some_bytes : (path more : List ℕ) → (path ++ 32 ∷ more) ≢ []
some_bytes [] more = λ e. cc
some_bytes (b ∷ path) more = λ e. cc

some_text : (x : Line) (a : List ℕ) → (line_text x ++ a) ≢ []
some_text (Leaf path value) a = λ e. some_bytes path _ (sym (ahead path (codes " = ") value a) ∙ e)
some_text (Chosen path case) a = λ e. some_bytes path _ (sym (ahead path (codes " : ") case a) ∙ e)

pub one_reading : (xs ys : List Line) → ArePlain xs → ArePlain ys → text_of xs ≡ text_of ys → xs ≡ ys
one_reading [] [] p q e = refl
one_reading [] (y ∷ ys) p q e = absurd (some_text y (text_of ys) (sym e))
one_reading (x ∷ xs) [] p q e = absurd (some_text x (text_of xs) e)
one_reading (x ∷ xs) (y ∷ ys) p q e =
    let parts = one_line x y (text_of xs) (text_of ys) p.0 q.0 e in
    let rest = one_reading xs ys p.1 q.1 parts.1 in
    let first = parts.0 in
    cc
