-- Places in a group. Assumes nothing.
use Prim.Native.Nat.{ℕ, ◌+◌, ◌*◌, ◌≤◌, ◌<◌}
use mathlib.Core.Path.{◌≡◌}
use native.Mathlib.Nat.{add-mul, one-mul, mul_comm, mul-le-mul, mul-le-mul_right}
use native.Mathlib.Omega.{arith}
use Rattle.packet.specs.Packet.{place_of}

-- the next frame of packet N stands L + 1 places further on
pub place-next : (l n k : ℕ) → place_of l n k + (l + 1) ≡ place_of l n (k + 1)
place-next l n k =
    let c : (k + 1) * (l + 1) ≡ k * (l + 1) + 1 * (l + 1) = add-mul k 1 (l + 1) in
    let e : 1 * (l + 1) ≡ l + 1 = one-mul (l + 1) in
    omega arith

-- a place of packet N is below the places of the group
pub place_in : (l n b k : ℕ) → n ≤ l → k < b → place_of l n k < (l + 1) * b
place_in l n b k h q =
    let a : (k + 1) * (l + 1) ≤ b * (l + 1) = mul-le-mul_right (l + 1) (omega arith) in
    let f : b * (l + 1) ≡ (l + 1) * b = mul_comm b (l + 1) in
    omega (arith, place-next l n k)

-- a group has at most 80 places
pub group-small : (l b : ℕ) → l ≤ 7 → b ≤ 10 → (l + 1) * b ≤ 80
group-small l b h q = mul-le-mul {n₁ = l + 1} {m₁ = b} {n₂ = 8} {m₂ = 10} (omega arith) q
