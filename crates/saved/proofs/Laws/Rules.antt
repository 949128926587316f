-- The record rules: the tests that the code makes, and the facts that they tell.
-- The four laws of tests stay: the library has none of `beq`, nor of an implication as a Bool.
use mathlib.Core.Path.{◌≡◌, refl}
use mathlib.Core.Bool.{Bool, true, false, ◌||◌, not, beq}
use mathlib.Core.List.{List}
use Prim.Native.Nat.{ℕ}
use borrow.Author.Tests.{ltb-true, lt-ltb, eqb-true, eq-eqb, not-true}
use Rattle.std.proofs.lemmas.Bool.{not_from_false, and_from, and_parts}
use Rattle.saved.specs.Rules.{seconds_bit_7_rule, no_test_pattern_rule, c_low_bits_rule, d_low_bits_rule, enables_while_reset_low_rule, count_by_base_rule, uip_is_pending_rule, pending_set_rule, pending_runs_rule, upper_bits_rule, spare_byte_rule, keeps_c, keeps_d, keeps_reset, keeps_pending, keeps_rules, RecordRules}

-- ---- one test

where_test : (a b : Bool) → (a ≡ true → b ≡ true) → not a || b ≡ true
where_test true b f = f refl
where_test false b f = refl

where_fact : (a b : Bool) → not a || b ≡ true → a ≡ true → b ≡ true
where_fact true b e h = e
where_fact false b e h = cc

same_test : (a b : Bool) → a ≡ b → beq a b ≡ true
same_test true b e = rw (← e)
same_test false b e = rw (← e)

same_fact : (a b : Bool) → beq a b ≡ true → a ≡ b
same_fact true true e = refl
same_fact true false e = cc
same_fact false true e = cc
same_fact false false e = refl

-- ---- all of them

pub rules_test : (l : List ℕ) → RecordRules l → keeps_rules l ≡ true
unfolding keeps_rules
rules_test l r =
    and_from _ _ (lt-ltb _ 128 r.seconds_bit_7)
    (and_from _ _ (not_from_false _ r.no_test_pattern)
    (and_from _ _ (and_from _ _ (eq-eqb _ 0 r.c_low_bits) (same_test _ _ r.irqf_by_rule))
    (and_from _ _ (and_from _ _ (eq-eqb _ 0 r.d_low_bits) (where_test _ _ (λ h. eq-eqb _ 0 (r.vrt_while_ps_low h))))
    (and_from _ _
    (and_from _ _ (where_test _ _ (λ h. eq-eqb _ 0 (r.enables_while_reset_low h))) (where_test _ _ (λ h. eq-eqb _ 0 (r.flags_while_reset_low h))))
    (and_from _ _ r.count
    (and_from _ _
    (and_from _ _ (same_test _ _ r.uip)
    (and_from _ _ (where_test _ _ (λ h. not_from_false _ (r.pending_set h)))
    (and_from _ _ (where_test _ _ r.pending_runs)
    (where_test _ _ r.pending_before_end))))
    (and_from _ _ (lt-ltb _ 16 r.upper_bits)
    (and_from _ _ (eq-eqb _ 0 r.spare_68)
    (and_from _ _ (eq-eqb _ 0 r.spare_69)
    (and_from _ _ (eq-eqb _ 0 r.spare_70)
    (eq-eqb _ 0 r.spare_71)))))))))))

pub rules_fact : (l : List ℕ) → keeps_rules l ≡ true → RecordRules l
unfolding keeps_rules
rules_fact l e =
    let e1 = (and_parts (seconds_bit_7_rule l) _ e).1 in
    let e2 = (and_parts (no_test_pattern_rule l) _ e1).1 in
    let e3 = (and_parts (keeps_c l) _ e2).1 in
    let e4 = (and_parts (keeps_d l) _ e3).1 in
    let e5 = (and_parts (keeps_reset l) _ e4).1 in
    let e6 = (and_parts (count_by_base_rule l) _ e5).1 in
    let c = (and_parts (keeps_c l) _ e2).0 in
    let d = (and_parts (keeps_d l) _ e3).0 in
    let low = (and_parts (keeps_reset l) _ e4).0 in
    let p = (and_parts (keeps_pending l) _ e6).0 in
    let p1 = (and_parts (uip_is_pending_rule l) _ p).1 in
    let p2 = (and_parts (pending_set_rule l) _ p1).1 in
    let s = (and_parts (keeps_pending l) _ e6).1 in
    let s1 = (and_parts (upper_bits_rule l) _ s).1 in
    let s2 = (and_parts (spare_byte_rule l 68) _ s1).1 in
    let s3 = (and_parts (spare_byte_rule l 69) _ s2).1 in
    record {
      seconds_bit_7 = ltb-true _ 128 ((and_parts (seconds_bit_7_rule l) _ e).0);
      no_test_pattern = not-true _ ((and_parts (no_test_pattern_rule l) _ e1).0);
      c_low_bits = eqb-true _ 0 ((and_parts (c_low_bits_rule l) _ c).0);
      irqf_by_rule = same_fact _ _ ((and_parts (c_low_bits_rule l) _ c).1);
      d_low_bits = eqb-true _ 0 ((and_parts (d_low_bits_rule l) _ d).0);
      vrt_while_ps_low = λ h. eqb-true _ 0 (where_fact _ _ ((and_parts (d_low_bits_rule l) _ d).1) h);
      enables_while_reset_low = λ h. eqb-true _ 0 (where_fact _ _ ((and_parts (enables_while_reset_low_rule l) _ low).0) h);
      flags_while_reset_low = λ h. eqb-true _ 0 (where_fact _ _ ((and_parts (enables_while_reset_low_rule l) _ low).1) h);
      count = (and_parts (count_by_base_rule l) _ e5).0;
      uip = same_fact _ _ ((and_parts (uip_is_pending_rule l) _ p).0);
      pending_set = λ h. not-true _ (where_fact _ _ ((and_parts (pending_set_rule l) _ p1).0) h);
      pending_runs = where_fact _ _ ((and_parts (pending_runs_rule l) _ p2).0);
      pending_before_end = where_fact _ _ ((and_parts (pending_runs_rule l) _ p2).1);
      upper_bits = ltb-true _ 16 ((and_parts (upper_bits_rule l) _ s).0);
      spare_68 = eqb-true _ 0 ((and_parts (spare_byte_rule l 68) _ s1).0);
      spare_69 = eqb-true _ 0 ((and_parts (spare_byte_rule l 69) _ s2).0);
      spare_70 = eqb-true _ 0 ((and_parts (spare_byte_rule l 70) _ s3).0);
      spare_71 = eqb-true _ 0 ((and_parts (spare_byte_rule l 70) _ s3).1);
    }
