-- The host of a URL.
use Rattle.std.proofs.Common.{◌≡◌, ℕ, ◌+◌, ◌<◌, List, [], ◌∷◌, ◌++◌, length, take, refl, sym, ap, ◌∙◌, subst, inl, inr, arith}
use Rattle.std.specs.List.{AllByRecursion}
use Rattle.std.proofs.lemmas.List.{append-nil, length-take-le}
use Rattle.tag_address.specs.Places.{Begins}
use Rattle.tag_address.specs.Parts.{IsNotLed, IsStuckPart}
use Rattle.tag_address.specs.UrlParts.{IsHostAt, IsHostText}
use Rattle.tag_address.specs.Urls.{IsHost, IsHostByte}
use Rattle.tag_address.proofs.Splits.{are_cut}

host_byte : (xs r : List ℕ) (b : ℕ) → AllByRecursion IsHostByte (xs ++ (b ∷ r)) → IsHostByte b
host_byte [] r b all = all.0
host_byte (x ∷ xs) r b all = host_byte xs r b all.1

host_behind : (front x y z r : List ℕ) → AllByRecursion IsHostByte x → IsNotLed IsHostByte z → x ≡ front ++ r → z ≡ r ++ y → x ≡ front
host_behind front x y z [] all not e f = e ∙ append-nil front
host_behind front x y z (b ∷ r) all not e f = absurd (not b (r ++ y) f (host_byte front r b (subst (AllByRecursion IsHostByte) e all)))

-- of two cuts behind a host, before what isn't led by one of its bytes, both are the same
pub only_host : (front x y z : List ℕ) → AllByRecursion IsHostByte front → AllByRecursion IsHostByte x → IsNotLed IsHostByte y → IsNotLed IsHostByte z → front ++ z ≡ x ++ y → x ≡ front
only_host front x y z all other noty notz e =
    elim (are_cut front z x y e) [
      | inl h ↦ sym (host_behind x front z y h.0 all noty h.1 h.2)
      | inr h ↦ host_behind front x y z h.0 other notz h.1 h.2
    ]

host_next : (text : List ℕ) → IsNotLed IsHostByte text → 0 < length text → Begins IsHostText (take (0 + 1) text) → ⊥
host_next [] not some h = omega arith
host_next (b ∷ text) not some h = not b text refl (first (b ∷ h.0) h.1 b h.0 refl h.2)
  where
    first : (x host : List ℕ) (b : ℕ) (r : List ℕ) → x ≡ b ∷ r → IsHostText x host → IsHostByte b
    first x host b r e h = (subst (AllByRecursion IsHostByte) (sym h.0 ∙ e) h.1.1).0

some_host : IsHost (104 ∷ [])
some_host = (λ e. cc, (inr (inr (inr (inr (omega arith, omega arith)))), tt))

pub no_host : (text : List ℕ) → IsNotLed IsHostByte text → IsStuckPart IsHostText text 0
no_host text not = record {
  within = omega arith;
  front = (104 ∷ [], 104 ∷ [], (refl, some_host));
  none = λ x r host e h. h.1.0 (sym h.0 ∙ none x r e);
  next = host_next text not;
}
  where
    none : (x r : List ℕ) → [] ≡ x ++ r → x ≡ []
    none [] r e = refl
    none (b ∷ x) r e = cc

pub host_found : (text : List ℕ) (used : ℕ) → IsHostAt text used → 0 < used → IsHost (take used text)
host_found text used at some =
    let long = length-take-le used text at.within in
    (λ e. let none = ap length e in omega (arith, long, none), at.all)
