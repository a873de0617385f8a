-- A byte with another bit is one.
use Rattle.std.proofs.Common.{◌≡◌, ℕ, zero, suc, ◌+◌, ◌*◌, ◌/◌, ◌%◌, ◌^◌, ◌<◌, ◌≤◌, ap, ◌∙◌, arith}

of_parts : (b x above own low : ℕ) → x < 8 → b < 256 → above ≡ b / (2 * 2 ^ x) * (2 * 2 ^ x) → own ≤ 2 ^ x → low ≡ b % 2 ^ x → above + own + low < 256
of_parts b zero above own low h k a o l = omega arith
of_parts b (suc zero) above own low h k a o l = omega arith
of_parts b (suc (suc zero)) above own low h k a o l = omega arith
of_parts b (suc (suc (suc zero))) above own low h k a o l = omega arith
of_parts b (suc (suc (suc (suc zero)))) above own low h k a o l = omega arith
of_parts b (suc (suc (suc (suc (suc zero))))) above own low h k a o l = omega arith
of_parts b (suc (suc (suc (suc (suc (suc zero)))))) above own low h k a o l = omega arith
of_parts b (suc (suc (suc (suc (suc (suc (suc zero))))))) above own low h k a o l = omega arith
of_parts b (suc (suc (suc (suc (suc (suc (suc (suc x)))))))) above own low h k a o l = absurd (omega arith)

-- what stands above a bit, the bit and what stands below it are a byte
pub is_byte : (b x weight above own : ℕ) → x < 8 → b < 256 → weight ≡ 2 ^ x → above ≡ b / (2 * weight) * (2 * weight) → own ≤ weight
    → above + own + b % weight < 256
is_byte b x weight above own h k w a o =
    let low : b % weight ≡ b % 2 ^ x = ap (λ n. b % n) w in
    let high : above ≡ b / (2 * 2 ^ x) * (2 * 2 ^ x) = a ∙ ap (λ n. b / (2 * n) * (2 * n)) w in
    of_parts b x above own (b % weight) h k high (omega (arith, o, w)) low
