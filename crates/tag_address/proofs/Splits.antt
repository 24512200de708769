-- A text that is cut into two parts in two ways.
use Rattle.std.proofs.Common.{◌≡◌, ◌⊎◌, ℕ, ◌+◌, ◌<◌, List, [], ◌∷◌, ◌++◌, length, take, get_or, refl, sym, ap, ◌∙◌, inl, inr}
use Rattle.std.proofs.lemmas.List.{append-nil, take_more}

-- the first cut stands behind the second, or not behind it
abbrev pub AreCut : (x y w z : List ℕ) → Type 0
AreCut x y w z =
    ((r : List ℕ) × (x ≡ w ++ r) × (z ≡ r ++ y))
    ⊎ ((r : List ℕ) × (w ≡ x ++ r) × (y ≡ r ++ z))

same_head : (a b : ℕ) (x y : List ℕ) → a ∷ x ≡ b ∷ y → a ≡ b
same_head a b x y e = cc

same_tail : (a b : ℕ) (x y : List ℕ) → a ∷ x ≡ b ∷ y → x ≡ y
same_tail a b x y e = cc

longer : (a b : ℕ) (x y w z : List ℕ) → a ≡ b → AreCut x y w z → AreCut (a ∷ x) y (b ∷ w) z
longer a b x y w z e cut =
    elim cut [
      | inl h ↦ inl (h.0, cc, h.2)
      | inr h ↦ inr (h.0, cc, h.2)
    ]

pub are_cut : (x y w z : List ℕ) → x ++ y ≡ w ++ z → AreCut x y w z
are_cut [] y w z e = inr (w, refl, e)
are_cut (a ∷ x) y [] z e = inl (a ∷ x, refl, sym e)
are_cut (a ∷ x) y (b ∷ w) z e =
    longer a b x y w z (same_head a b _ _ e) (are_cut x y w z (same_tail a b _ _ e))

-- a last byte is all that stands behind a front, or nothing of it is
by_rest : (x : List ℕ) (b : ℕ) (front whole r s : List ℕ) → whole ≡ front ++ (b ∷ []) → x ≡ front ++ s → b ∷ [] ≡ s ++ r → (x ≡ whole) ⊎ ((t : List ℕ) × (front ≡ x ++ t))
by_rest x b front whole r [] is e f = inr ([], sym (append-nil x ∙ e ∙ append-nil front))
by_rest x b front whole r (c ∷ []) is e f =
    let same : b ≡ c = cc in
    inl (e ∙ ap (λ (d : ℕ). front ++ (d ∷ [])) (sym same) ∙ sym is)
by_rest x b front whole r (c ∷ d ∷ s) is e f = cc

-- a text in front of one that has one byte more is that text, or stands in front of it without the byte
pub front_of_longer : (x r text : List ℕ) (p : ℕ) → p < length text → take (p + 1) text ≡ x ++ r → (x ≡ take (p + 1) text) ⊎ ((s : List ℕ) × (take p text ≡ x ++ s))
front_of_longer x r text p inside e =
    let pushed : take p text ++ (get_or text p 0 ∷ []) ≡ x ++ r = sym (take_more text p 0 inside) ∙ e in
    elim (are_cut (take p text) (get_or text p 0 ∷ []) x r pushed) [
      | inl h ↦ inr (h.0, h.1)
      | inr h ↦ by_rest x (get_or text p 0) (take p text) (take (p + 1) text) r h.0 (take_more text p 0 inside) h.1 h.2
    ]
