-- Facts on the bits of a number.
use Rattle.std.proofs.Common.{◌≡◌, ◌+◌, ◌-◌, ◌<◌, ◌≤◌, ◌==◌, Bool, ℕ, zero, suc, List, [], ◌∷◌, ◌++◌, take, min, length, set, arith, refl, ap, sym, ◌∙◌, add-one}
use Rattle.std.proofs.lemmas.List.{length-take-le, take_all, take_min, take_more_set, take-append-le}
use Rattle.std.specs.Int.{bit_at}
use Rattle.route_table.specs.Bits.{bits_of, low_bits}

-- so many bits as were asked for
pub length-low_bits : (count number : ℕ) → length (low_bits count number) ≡ count
length-low_bits zero number = refl
length-low_bits (suc place) number = ap (λ n. suc n) (length-low_bits place number)

-- one more of the first bits
pub take-low_bits : (count number i j : ℕ) → i + j + 1 ≡ count
    → take (suc i) (low_bits count number) ≡ take i (low_bits count number) ++ (bit_at number j == 1) ∷ []
take-low_bits zero number i j e = absurd (omega (arith, e))
take-low_bits (suc place) number zero j e = ap (λ k. (bit_at number k == 1) ∷ []) (omega (arith, e))
take-low_bits (suc place) number (suc i) j e =
    ap (λ l. (bit_at number place == 1) ∷ l) (take-low_bits place number i j (omega (arith, e)))

-- an address has 32 bits
pub length-bits_of : (address : ℕ) → length (bits_of address) ≡ 32
unfolding bits_of
length-bits_of address = length-low_bits 32 address

-- one more of its first bits
pub take-bits_of : (address i : ℕ) → i < 32
    → take (i + 1) (bits_of address) ≡ take i (bits_of address) ++ (bit_at address (31 - i) == 1) ∷ []
unfolding bits_of
take-bits_of address i h =
    ap (λ n. take n (low_bits 32 address)) (add-one i) ∙ take-low_bits 32 address i (31 - i) (omega (arith, h))

-- the next of the first bits is written in its place
pub write-bits_of : (address : ℕ) (bits : List Bool) (i : ℕ) → length bits ≡ 32 → i < 32
    → take i bits ≡ take i (bits_of address)
    → take (i + 1) (set bits i (bit_at address (31 - i) == 1)) ≡ take (i + 1) (bits_of address)
write-bits_of address bits i n h e =
    take_more_set bits i (bit_at address (31 - i) == 1) (omega (arith, n, h))
    ∙ ap (λ l. l ++ (bit_at address (31 - i) == 1) ∷ []) e ∙ sym (take-bits_of address i h)

-- all bits of an address, where there are as many
pub all-bits_of : (address : ℕ) (bits : List Bool) (i : ℕ) → length bits ≡ 32 → i ≡ 32
    → take i bits ≡ take i (bits_of address) → bits ≡ bits_of address
all-bits_of address bits i n h e =
    let le : length (bits_of address) ≤ i = omega (arith, h, length-bits_of address) in
    sym (take_all i bits (omega (arith, n, h))) ∙ e ∙ take_all i (bits_of address) le

-- the first bits of a list, as many as there are and no more than n
pub take-least : (n m : ℕ) (bits : List Bool) → m ≡ min (length bits) n → take m bits ≡ take n bits
take-least n m bits h =
    let e : m ≡ min n (length bits) = omega (arith, h) in
    ap (λ k. take k bits) e ∙ take_min n bits

-- the same where they are copied to the front of other bits
pub take-copied : (n m : ℕ) (bits copied others : List Bool) → m ≡ min (length bits) n → copied ≡ take m bits
    → take m (copied ++ others) ≡ take n bits
take-copied n m bits copied others h e =
    let le : m ≤ length bits = omega (arith, h) in
    ap (λ l. take m (l ++ others)) e
    ∙ take-append-le m (take m bits) others (omega (arith, length-take-le m bits le))
    ∙ take_all m (take m bits) (omega (arith, length-take-le m bits le))
    ∙ take-least n m bits h
