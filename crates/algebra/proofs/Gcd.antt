-- `gcd` is the greatest common divisor, and fractions in lowest terms have equal parts where they are equal. Assumes nothing.
use Rattle.std.proofs.Common.{◌≡◌, ℕ, zero, suc, ◌*◌, ◌/◌, ◌%◌, ◌<◌, sym, ap, ◌∙◌, subst, mod-lt, mul_comm, mul-one, arith}
use Prim.Native.Nat.{◌∣◌}
use native.Mathlib.Nat.{dvd_refl, dvd-zero, dvd-mod_iff, dvd_antisymm, dvd-mul_left, dvd-mul_right, dvd_trans, eq-one_of_dvd-one, dvd_of_mul-dvd-mul_left, mul-dvd-mul_left, mul-div_cancel', pos_of_dvd_of_pos}
use Rattle.algebra.specs.Gcd.{euclid, gcd, gcd₃, IsGcd, IsGcd₃}
use Rattle.algebra.specs.Laws.{GcdIsGreatest}

-- both are divided
euclid_divides : (f a b : ℕ) → b < f → (euclid f a b ∣ a) × (euclid f a b ∣ b)
euclid_divides zero a b h = absurd (omega arith)
euclid_divides (suc f) a zero h = (dvd_refl a, dvd-zero a)
euclid_divides (suc f) a (suc b) h =
    let less : a % suc b < suc b = mod-lt a (omega arith) in
    let ih = euclid_divides f (suc b) (a % suc b) (omega arith) in
    ((dvd-mod_iff (euclid f (suc b) (a % suc b)) {m = a} ih.0).0 ih.1, ih.0)

-- whatever divides both divides it
euclid_greatest : (f a b c : ℕ) → c ∣ a → c ∣ b → c ∣ euclid f a b
euclid_greatest zero a b c h k = h
euclid_greatest (suc f) a zero c h k = h
euclid_greatest (suc f) a (suc b) c h k = euclid_greatest f (suc b) (a % suc b) c k ((dvd-mod_iff c {m = a} k).1 h)

pub gcd_left : (a b : ℕ) → gcd a b ∣ a
gcd_left a b = (euclid_divides (suc b) a b (omega arith)).0

pub gcd_right : (a b : ℕ) → gcd a b ∣ b
gcd_right a b = (euclid_divides (suc b) a b (omega arith)).1

pub gcd_greatest : (a b c : ℕ) → c ∣ a → c ∣ b → c ∣ gcd a b
gcd_greatest a b = euclid_greatest (suc b) a b

pub gcd_pos : (a b : ℕ) → 0 < b → 0 < gcd a b
gcd_pos a b h = pos_of_dvd_of_pos (gcd_right a b) h

-- what is left after the gcd is divided out has none in common
pub gcd_parts : (a b : ℕ) → 0 < b → gcd (a / gcd a b) (b / gcd a b) ≡ 1
gcd_parts a b h =
    let g = gcd a b in
    let k = gcd (a / g) (b / g) in
    let left : g * k ∣ a = subst (λ n. g * k ∣ n) (mul-div_cancel' g (gcd_left a b)) (mul-dvd-mul_left k {c = a / g} g (gcd_left (a / g) (b / g))) in
    let right : g * k ∣ b = subst (λ n. g * k ∣ n) (mul-div_cancel' g (gcd_right a b)) (mul-dvd-mul_left k {c = b / g} g (gcd_right (a / g) (b / g))) in
    let all : g * k ∣ g = gcd_greatest a b (g * k) left right in
    eq-one_of_dvd-one (dvd_of_mul-dvd-mul_left k (gcd_pos a b h) (subst (λ n. g * k ∣ n) (sym (mul-one g)) all))

-- what divides k·a and k·b divides k times their greatest common divisor
pub gcd_scale : (k a b c : ℕ) → 0 < k → c ∣ k * a → c ∣ k * b → c ∣ k * gcd a b
gcd_scale k a b c k0 ha hb =
    let G = gcd (k * a) (k * b) in
    let here : k ∣ G = gcd_greatest (k * a) (k * b) k (dvd-mul_right k a) (dvd-mul_right k b) in
    let q = G / k in
    let Gq : k * q ≡ G = mul-div_cancel' k here in
    let qa : q ∣ a = dvd_of_mul-dvd-mul_left q k0 (subst (λ n. n ∣ k * a) (sym Gq) (gcd_left (k * a) (k * b))) in
    let qb : q ∣ b = dvd_of_mul-dvd-mul_left q k0 (subst (λ n. n ∣ k * b) (sym Gq) (gcd_right (k * a) (k * b))) in
    let up : k * q ∣ k * gcd a b = mul-dvd-mul_left q {c = gcd a b} k (gcd_greatest a b q qa qb) in
    dvd_trans c (gcd_greatest (k * a) (k * b) c ha hb) (subst (λ n. n ∣ k * gcd a b) Gq up)

-- Euclid's lemma
pub coprime_divides : (a b c : ℕ) → gcd a b ≡ 1 → b ∣ c * a → 0 < c → b ∣ c
coprime_divides a b c e h c0 = subst (λ n. b ∣ n) (ap (λ n. c * n) e ∙ mul-one c) (gcd_scale c a b b c0 h (dvd-mul_left b c))

-- equal fractions in lowest terms have equal denominators
pub same_den : (a b c d : ℕ) → gcd a b ≡ 1 → gcd c d ≡ 1 → 0 < b → 0 < d → a * d ≡ c * b → b ≡ d
same_den a b c d e f b0 d0 h =
    dvd_antisymm
    (coprime_divides a b d e (subst (λ n. b ∣ n) (sym h ∙ mul_comm a d) (dvd-mul_left b c)) d0)
    (coprime_divides c d b f (subst (λ n. d ∣ n) (h ∙ mul_comm c b) (dvd-mul_left d a)) b0)

pub gcd_step : (a b : ℕ) → 0 < b → gcd a b ≡ gcd b (a % b)
gcd_step a b h =
    let down : gcd a b ∣ a % b = (dvd-mod_iff (gcd a b) {m = a} (gcd_right a b)).1 (gcd_left a b) in
    let up : gcd b (a % b) ∣ a = (dvd-mod_iff (gcd b (a % b)) {m = a} (gcd_left b (a % b))).0 (gcd_right b (a % b)) in
    dvd_antisymm (gcd_greatest b (a % b) (gcd a b) (gcd_right a b) down) (gcd_greatest a b (gcd b (a % b)) up (gcd_left b (a % b)))

pub gcd_is : (a b : ℕ) → IsGcd a b (gcd a b)
gcd_is a b = record { left = gcd_left a b; right = gcd_right a b; greatest = gcd_greatest a b }

-- ---- three numbers
pub gcd₃_is : (a b c : ℕ) → IsGcd₃ a b c (gcd₃ a b c)
gcd₃_is a b c = record {
  first = dvd_trans (gcd₃ a b c) (gcd_left (gcd a b) c) (gcd_left a b);
  second = dvd_trans (gcd₃ a b c) (gcd_left (gcd a b) c) (gcd_right a b);
  third = gcd_right (gcd a b) c;
  greatest = λ d x y z. gcd_greatest (gcd a b) c d (gcd_greatest a b d x y) z;
}

pub gcd₃_pos : (a b c : ℕ) → 0 < c → 0 < gcd₃ a b c
gcd₃_pos a b c h = gcd_pos (gcd a b) c h

pub gcd₃_scale : (k a b c d : ℕ) → 0 < k → d ∣ k * a → d ∣ k * b → d ∣ k * c → d ∣ k * gcd₃ a b c
gcd₃_scale k a b c d k0 ha hb hc = gcd_scale k (gcd a b) c d k0 (gcd_scale k a b d k0 ha hb) hc

pub gcd₃_parts : (a b c : ℕ) → 0 < c → gcd₃ (a / gcd₃ a b c) (b / gcd₃ a b c) (c / gcd₃ a b c) ≡ 1
gcd₃_parts a b c h =
    let g = gcd₃ a b c in
    let is = gcd₃_is a b c in
    let k = gcd₃ (a / g) (b / g) (c / g) in
    let ks = gcd₃_is (a / g) (b / g) (c / g) in
    let first : g * k ∣ a = subst (λ n. g * k ∣ n) (mul-div_cancel' g is.first) (mul-dvd-mul_left k {c = a / g} g ks.first) in
    let second : g * k ∣ b = subst (λ n. g * k ∣ n) (mul-div_cancel' g is.second) (mul-dvd-mul_left k {c = b / g} g ks.second) in
    let third : g * k ∣ c = subst (λ n. g * k ∣ n) (mul-div_cancel' g is.third) (mul-dvd-mul_left k {c = c / g} g ks.third) in
    let all : g * k ∣ g = is.greatest (g * k) first second third in
    eq-one_of_dvd-one (dvd_of_mul-dvd-mul_left k (gcd₃_pos a b c h) (subst (λ n. g * k ∣ n) (sym (mul-one g)) all))

pub gcds_are_greatest : GcdIsGreatest
gcds_are_greatest = (gcd_is, gcd₃_is)
