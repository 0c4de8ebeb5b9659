-- Joining, step by step. Assumes nothing.
use Prim.Native.Nat.{ℕ, zero, suc, ◌+◌, ◌*◌}
use mathlib.Core.Bool.{Bool, true, false, cond}
use mathlib.Core.Path.{◌≡◌, refl, sym, ap, ◌∙◌}
use mathlib.Core.List.{List}
use native.Mathlib.Numerals.{add-one}
use lib.ListN.{length, get_or, set}
use Rattle.octets.specs.Octets.{over}
use Rattle.octets.proofs.Regions.{cut_at, cut-is}
use Rattle.frame.specs.Shape.{Shape, packets_of, room_of}
use Rattle.holding.specs.Group.{held_at, bundle_of, bundle_at, with_packet}
use Rattle.bundle.specs.declared.Bundle.{Bundle}
use Rattle.holding.specs.declared.Holding.{Holding}
use Rattle.joining.specs.Joining.{take_one, take_below, either, unnumbered}
use Rattle.joining.proofs.Heads.{same-fields, take_head}

-- ---- taking packets, one by one

-- a holding whose numbers are not looked at
abbrev parts : Holding → Holding
parts h = unnumbered h.held h.marks h.room

module _ (v : Shape) where
  parts-take : (a b : Holding) (n : ℕ) → take_below v a (parts b) n ≡ take_below v a b n
  unfolding take_below take_one held_at
  parts-take a b zero = refl
  parts-take a b (suc n) = ap (λ (h : Holding). take_one v h b n) (parts-take a b n)

  of_parts : (a b : Holding) (n : ℕ) → take_below v (parts a) b n ≡ parts (take_below v a b n)
  unfolding take_below take_one with_packet
  of_parts a b zero = refl
  of_parts a b (suc n) = ap (λ (h : Holding). take_one v h b n) (of_parts a b n) ∙ go (take_below v a b n) (held_at b n)
    where
      go : (h : Holding) (t : Bool) → cond t (with_packet v (parts h) n (bundle_at v b n)) (parts h) ≡ parts (cond t (with_packet v h n (bundle_at v b n)) h)
      go h true = refl
      go h false = refl

-- one more packet
pub take_more : (v : Shape) (a b : Holding) (n : ℕ) (h k : Holding) → h ≡ take_below v a b n → k ≡ take_one v h b n → k ≡ take_below v a b (n + 1)
unfolding take_below
take_more v a b n h k e f = f ∙ ap (λ (g : Holding). take_one v g b n) e ∙ rw (add-one n)

-- packet n of these flags, types and cells: not held, or put in
module _ (v : Shape) (hs : List Bool) (ms rs : List ℕ) (hs' : List Bool) (ms' rs' : List ℕ) (n : ℕ) where
  pub one-lost : get_or hs' n false ≡ false → unnumbered hs ms rs ≡ take_one v (unnumbered hs ms rs) (unnumbered hs' ms' rs') n
  unfolding take_one held_at
  one-lost e = rw e

  pub packet-put : (p : Bundle) → p ≡ bundle_of v ms' rs' n → length p.room ≡ room_of v → get_or hs' n false ≡ true → (ms'' rs'' : List ℕ)
      → ms'' ≡ over ms (10 * n) p.marks → rs'' ≡ over rs (length p.room * n) p.room
      → unnumbered (set hs n true) ms'' rs'' ≡ take_one v (unnumbered hs ms rs) (unnumbered hs' ms' rs') n
  unfolding take_one held_at with_packet
  packet-put p q l e ms'' rs'' f g = rw (e, f, g, l, q)

  -- the same of what is cut out of the lists, whatever their lengths
  pub one-held : (ms'' rs'' : List ℕ) (c : ℕ) → get_or hs' n false ≡ true → c ≡ room_of v
      → ms'' ≡ over ms (10 * n) (cut_at ms' 10 n) → rs'' ≡ over rs (c * n) (cut_at rs' c n)
      → unnumbered (set hs n true) ms'' rs'' ≡ take_one v (unnumbered hs ms rs) (unnumbered hs' ms' rs') n
  unfolding take_one held_at with_packet bundle_of
  one-held ms'' rs'' c e w p q = rw (e, p, q, w, cut-is ms' 10 n, cut-is rs' (room_of v) n)

-- a's numbers, with these flags, types and cells
abbrev numbered : Holding → List Bool → List ℕ → List ℕ → Holding
numbered a hs ms rs =
    record { source = a.source; numbers = a.numbers; held = hs; marks = ms; room = rs }

-- every packet of either, with a's numbers
pub taken-numbered : (v : Shape) (a b : Holding) (hs : List Bool) (ms rs : List ℕ) → unnumbered hs ms rs ≡ either v (parts a) (parts b) → numbered a hs ms rs ≡ either v a b
taken-numbered v a b hs ms rs e =
    let p : unnumbered hs ms rs ≡ parts (either v a b) = e ∙ parts-take v (parts a) b (packets_of v) ∙ of_parts v a b (packets_of v) in
    let k = take_head v a b (packets_of v) in
    same-fields (sym k.source) (sym k.sequence) (sym k.timestamp) (sym k.l) (sym k.b)
    (ap (λ (h : Holding). h.held) p) (ap (λ (h : Holding). h.marks) p) (ap (λ (h : Holding). h.room) p)
