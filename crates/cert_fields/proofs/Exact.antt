-- Readers that are exact, put together.
use Rattle.std.proofs.Common.{◌≡◌, ℕ, zero, suc, ◌+◌, ◌-◌, ◌*◌, ◌/◌, ◌%◌, ◌<◌, ◌≤◌, Bool, true, false, cond, ltb, List, [], ◌∷◌, ◌++◌, length, take, drop, Option, Some, None, Err, refl, sym, ap, subst, ◌∙◌, append_assoc, arith}
use Rattle.std.specs.List.{flat_map, AllByRecursion}
use Rattle.std.proofs.lemmas.Bool.{ltb-true, ltb-false, le-ltb, lt-ltb}
use Rattle.std.proofs.lemmas.Option.{some_pair_parts, same_Some, none-some, cond_some}
use Rattle.std.proofs.lemmas.List.{take_at, drop_at, take-append-drop, length-append, length-take}
use Rattle.std.proofs.lemmas.List.Concat.{flat_map-cons}
use Rattle.lat_base.specs.Id.{is_id}
use Rattle.cert_fields.specs.declared.fault.CertFault.{CertFault}
use Rattle.cert_fields.specs.declared.fault.CertFault.TheVariants.{NotACertificate, Memory}
use Rattle.cert_fields.specs.Spelling.{u16_text, id_text, IsText, Begins, Takes}
use Rattle.cert_fields.specs.Reading.{◌>>=◌, Gives, u8_at, u16_at, pair_at, tested_at, made_at, many_at, bytes_at, two_at, id_at}
use Rattle.cert_fields.specs.Exact.{Exact}

-- the value of a step that gave one
pub step : {A B : Type 0} (o : Option A) (f : A → Option B) (y : B) → (o >>= f) ≡ Some y
    → (x : A) × (o ≡ Some x) × (f x ≡ Some y)
step None f y e = absurd cc
step (Some x) f y e = (x, refl, e)

-- any number, and so nothing is asked of it
abbrev pub AnyOf : {V : Type 0} → V → Type 0
AnyOf v = Unit {0}

pub u8_exact : Exact u8_at AnyOf (λ b. b ∷ [])
u8_exact = record {
  takes = u8_takes;
  again = λ v rest _. refl;
}
  where
    u8_takes : (bytes : List ℕ) (v : ℕ) (rest : List ℕ) → u8_at bytes ≡ Some (v, rest)
        → Unit {0} × (bytes ≡ (v ∷ []) ++ rest)
    u8_takes [] v rest e = absurd cc
    u8_takes (b ∷ bytes) v rest e = let p = some_pair_parts b v bytes rest e in (tt, cc)

pub u16_exact : Exact u16_at AnyOf u16_text
u16_exact = record {
  takes = u16_takes;
  again = λ v rest _. let t : ltb (v % 256) 256 ≡ true = lt-ltb _ _ (omega arith) in rw t (ap (λ (n : ℕ). Some (n, rest)) (omega arith));
}
  where
    u16_takes : (bytes : List ℕ) (v : ℕ) (rest : List ℕ) → u16_at bytes ≡ Some (v, rest)
        → Unit {0} × (bytes ≡ u16_text v ++ rest)
    u16_takes [] v rest e = absurd cc
    u16_takes (b ∷ []) v rest e = absurd cc
    u16_takes (b ∷ c ∷ bytes) v rest e =
        let s = cond_some (ltb c 256) (b * 256 + c, bytes) (v, rest) e in
        let lt : c < 256 = ltb-true _ _ s.0 in
        let value : b * 256 + c ≡ v = ap (λ (x : ℕ × List ℕ). x.0) s.1 in
        let high : v / 256 ≡ b = omega arith in
        let low : v % 256 ≡ c = omega arith in
        let others : bytes ≡ rest = ap (λ (x : ℕ × List ℕ). x.1) s.1 in
        (tt, rw (high, low) (ap (λ (r : List ℕ). b ∷ c ∷ r) others))

pub pair_exact : {A B : Type 0} (first : List ℕ → Option (A × List ℕ))
    (second : A → List ℕ → Option (B × List ℕ)) (F : A → Type 0) (G : A → B → Type 0)
    (t : A → List ℕ) (u : A → B → List ℕ)
    → Exact first F t → ((a : A) → Exact (second a) (G a) (u a))
    → Exact (pair_at first second) (λ p. F p.0 × G p.0 p.1) (λ p. t p.0 ++ u p.0 p.1)
pair_exact {A} {B} first second F G t u x y = record {
  takes = λ bytes v rest e.
      let p = step (first bytes) (λ a. second a.0 a.1 >>= λ b. Some ((a.0, b.0), b.1)) (v, rest) e in
      let q = step (second p.0.0 p.0.1) (λ b. Some ((p.0.0, b.0), b.1)) (v, rest) p.2 in
      let h = x.takes bytes p.0.0 p.0.1 p.1 in
      let k = (y p.0.0).takes p.0.1 q.0.0 q.0.1 q.1 in
      subst (λ (w : (A × B) × List ℕ). (F w.0.0 × G w.0.0 w.0.1) × (bytes ≡ (t w.0.0 ++ u w.0.0 w.0.1) ++ w.1)) (same_Some ((p.0.0, q.0.0), q.0.1) (v, rest) q.2)
      ((h.0, k.0), rw append_assoc (h.1 ∙ ap (λ (r : List ℕ). t p.0.0 ++ r) k.1));
  again = λ v rest fits.
      ap (pair_at first second) (append_assoc (t v.0) (u v.0 v.1) rest) ∙ rw (x.again v.0 (u v.0 v.1 ++ rest) fits.0, (y v.0).again v.1 rest fits.1) refl;
}

-- a test of the value that was read
pub tested_exact : {A : Type 0} (test : A → Bool) (field : List ℕ → Option (A × List ℕ))
    (F : A → Type 0) (t : A → List ℕ)
    → Exact field F t → Exact (tested_at test field) (λ a. F a × (test a ≡ true)) t
tested_exact {A} test field F t x = record {
  takes = λ bytes v rest e.
      let p = step (field bytes) (λ a. cond (test a.0) (Some a) None) (v, rest) e in
      let g = cond_some (test p.0.0) p.0 (v, rest) p.2 in
      let h = x.takes bytes p.0.0 p.0.1 p.1 in
      subst (λ (w : A × List ℕ). (F w.0 × (test w.0 ≡ true)) × (bytes ≡ t w.0 ++ w.1)) g.1 ((h.0, g.0), h.1);
  again = λ v rest fits. rw (x.again v rest fits.0, fits.1) refl;
}

-- a value made of the one that was read, and taken apart again
pub made_exact : {A B : Type 0} (make : A → B) (parts : B → A)
    (field : List ℕ → Option (A × List ℕ)) (F : A → Type 0) (t : A → List ℕ)
    → ((a : A) → parts (make a) ≡ a) → ((b : B) → make (parts b) ≡ b) → Exact field F t
    → Exact (made_at make field) (λ b. F (parts b)) (λ b. t (parts b))
made_exact {A} {B} make parts field F t back forth x = record {
  takes = λ bytes v rest e.
      let p = step (field bytes) (λ a. Some (make a.0, a.1)) (v, rest) e in
      let h = x.takes bytes p.0.0 p.0.1 p.1 in
      let q = some_pair_parts (make p.0.0) v p.0.1 rest p.2 in
      let same : p.0.0 ≡ parts v = sym (back p.0.0) ∙ ap parts q.0 in
      let k : F (parts v) × (bytes ≡ t (parts v) ++ p.0.1) = subst (λ (a : A). F a × (bytes ≡ t a ++ p.0.1)) same (h.0, h.1) in
      (k.0, k.1 ∙ ap (λ (r : List ℕ). t (parts v) ++ r) q.1);
  again = λ v rest fits. rw (x.again (parts v) rest fits) (ap (λ (b : B). Some (b, rest)) (forth v));
}

-- so many fields, one after the other
pub many_exact : {A : Type 0} (field : List ℕ → Option (A × List ℕ)) (F : A → Type 0)
    (t : A → List ℕ)
    → Exact field F t → (n : ℕ) → Exact (many_at field n)
    (λ xs. (length xs ≡ n) × AllByRecursion F xs) (flat_map t)
many_exact {A} field F t x n = record { takes = many_takes n; again = many_again n }
  where
    many_takes : (n : ℕ) (bytes : List ℕ) (v : List A) (rest : List ℕ)
        → many_at field n bytes ≡ Some (v, rest)
        → ((length v ≡ n) × AllByRecursion F v) × (bytes ≡ flat_map t v ++ rest)
    many_takes zero bytes v rest e =
        subst (λ (w : List A × List ℕ). ((length w.0 ≡ 0) × AllByRecursion F w.0) × (bytes ≡ flat_map t w.0 ++ w.1)) (same_Some ([], bytes) (v, rest) e) ((refl, tt), refl)
    many_takes (suc n) bytes v rest e =
        let p = step (field bytes) (λ a. many_at field n a.1 >>= λ others. Some (a.0 ∷ others.0, others.1)) (v, rest) e in
        let q = step (many_at field n p.0.1) (λ others. Some (p.0.0 ∷ others.0, others.1)) (v, rest) p.2 in
        let h = x.takes bytes p.0.0 p.0.1 p.1 in
        let k = many_takes n p.0.1 q.0.0 q.0.1 q.1 in
        subst (λ (w : List A × List ℕ). ((length w.0 ≡ suc n) × AllByRecursion F w.0) × (bytes ≡ flat_map t w.0 ++ w.1)) (same_Some (p.0.0 ∷ q.0.0, q.0.1) (v, rest) q.2)
        ((ap suc k.0.0, (h.0, k.0.1)), h.1 ∙ ap (λ (r : List ℕ). t p.0.0 ++ r) k.1 ∙ rw flat_map-cons (sym (append_assoc (t p.0.0) (flat_map t q.0.0) q.0.1)))

    many_again : (n : ℕ) (v : List A) (rest : List ℕ) → (length v ≡ n) × AllByRecursion F v
        → many_at field n (flat_map t v ++ rest) ≡ Some (v, rest)
    many_again zero [] rest fits = refl
    many_again zero (a ∷ v) rest fits = absurd (omega (arith, fits.0))
    many_again (suc n) [] rest fits = absurd (omega (arith, fits.0))
    many_again (suc n) (a ∷ v) rest fits =
        ap (many_at field (suc n)) (ap (λ (r : List ℕ). r ++ rest) (flat_map-cons t a v) ∙ append_assoc (t a) (flat_map t v) rest)
        ∙ rw (x.again a (flat_map t v ++ rest) fits.1.0, many_again n v rest (omega (arith, fits.0), fits.1.1)) refl

pub bytes_exact : (n : ℕ) → Exact (bytes_at n) (λ bs. length bs ≡ n) (λ bs. bs)
bytes_exact n = record {
  takes = λ bytes v rest e.
      let g : (ltb (length bytes) n ≡ false) × (◌≡◌ {A = List ℕ × List ℕ} (take n bytes, drop n bytes) (v, rest)) = enough (ltb (length bytes) n) _ _ e in
      let long : n ≤ length bytes = ltb-false _ _ g.0 in
      subst (λ (w : List ℕ × List ℕ). (length w.0 ≡ n) × (bytes ≡ w.0 ++ w.1)) g.1 (omega (arith, length-take n bytes), sym (take-append-drop n bytes));
  again = λ v rest fits.
      let long : ltb (length (v ++ rest)) n ≡ false = le-ltb _ _ (omega (arith, length-append v rest, fits)) in
      rw (long, take_at v rest n fits, drop_at v rest n fits) refl;
}
  where
    enough : {A : Type 0} (b : Bool) (x y : A) → cond b None (Some x) ≡ Some y
        → (b ≡ false) × (x ≡ y)
    enough true x y e = absurd cc
    enough false x y e = (refl, cc)

pub two_exact : Exact two_at (λ p. Unit {0} × Unit {0}) (λ p. u16_text p.0 ++ u16_text p.1)
two_exact = pair_exact u16_at (λ _. u16_at) AnyOf (λ _ _. Unit {0}) u16_text (λ _. u16_text) u16_exact (λ _. u16_exact)

-- a field that another description fits too
pub same_exact : {V : Type 0} (read : List ℕ → Option (V × List ℕ)) (F G : V → Type 0)
    (t u : V → List ℕ)
    → ((v : V) → F v → G v × (t v ≡ u v)) → ((v : V) → G v → F v × (t v ≡ u v)) → Exact read F t
    → Exact read G u
same_exact read F G t u there back x = record {
  takes = λ bytes v rest e. let h = x.takes bytes v rest e in let k = there v h.0 in (k.0, h.1 ∙ ap (λ (r : List ℕ). r ++ rest) k.1);
  again = λ v rest g. let k = back v g in ap (λ (r : List ℕ). read (r ++ rest)) (sym k.1) ∙ x.again v rest k.0;
}

pub id_exact : Exact id_at IsText id_text
id_exact = record {
  takes = λ bytes v rest e.
      let p = step (u8_at bytes) (λ n. tested_at is_id (bytes_at n.0) n.1) (v, rest) e in
      let h = u8_exact.takes bytes p.0.0 p.0.1 p.1 in
      let k = (tested_exact is_id (bytes_at p.0.0) (λ bs. length bs ≡ p.0.0) (λ bs. bs) (bytes_exact p.0.0)).takes p.0.1 v rest p.2 in
      (k.0.1, h.1 ∙ ap (λ (r : List ℕ). p.0.0 ∷ r) k.1 ∙ ap (λ (n : ℕ). n ∷ (v ++ rest)) (sym k.0.0));
  again = λ v rest fits.
      (tested_exact is_id (bytes_at (length v)) (λ bs. length bs ≡ length v) (λ bs. bs) (bytes_exact (length v))).again v rest (refl, fits);
}

-- a value that was read, and how long its spelling is
pub begins : {V : Type 0} {read : List ℕ → Option (V × List ℕ)} {F : V → Type 0} {t : V → List ℕ}
    → Exact read F t
    → (bytes : List ℕ) (v : V) (rest : List ℕ) → read bytes ≡ Some (v, rest)
    → Begins F t bytes v (length bytes - length rest)
begins {V} {read} {F} {t} x bytes v rest e =
    let h = x.takes bytes v rest e in
    let long : length bytes ≡ length (t v) + length rest = ap length h.1 ∙ length-append (t v) rest in
    let n : length bytes - length rest ≡ length (t v) = omega arith in
    record {
      fits = h.0;
      within = omega arith;
      spelled = rw n (ap (take (length (t v))) h.1 ∙ take_at (t v) rest (length (t v)) refl);
    }

-- what a field's reader refuses begins with no spelling
pub begins_none : {V : Type 0} {read : List ℕ → Option (V × List ℕ)} {F : V → Type 0}
    {t : V → List ℕ} → Exact read F t
    → (bytes : List ℕ) → read bytes ≡ None → (v : V) (n : ℕ) → Begins F t bytes v n → ⊥
begins_none {V} {read} {F} {t} x bytes e v n b =
    let parts : t v ++ drop n bytes ≡ bytes = ap (λ (r : List ℕ). r ++ drop n bytes) (sym b.spelled) ∙ take-append-drop n bytes in
    none-some (v, drop n bytes) (sym e ∙ ap read (sym parts) ∙ x.again v (drop n bytes) b.fits)

-- what a field's reader fails with
pub begins_err : {X V : Type 0} (view : X → V × List ℕ) (read : List ℕ → Option (V × List ℕ))
    (F : V → Type 0) (t : V → List ℕ) → Exact read F t
    → (bytes : List ℕ) (e : CertFault) → Gives view (Err e) (read bytes) → Takes F t (Err e) bytes
begins_err view read F t x bytes NotACertificate h = begins_none x bytes h
begins_err view read F t x bytes Memory h = tt

-- a value takes no more bytes than there are
pub no_longer : {V : Type 0} {read : List ℕ → Option (V × List ℕ)} {F : V → Type 0} {t : V → List ℕ}
    → Exact read F t
    → (bytes : List ℕ) (v : V) (rest : List ℕ) → read bytes ≡ Some (v, rest)
    → length rest ≤ length bytes
no_longer {V} {read} {F} {t} x bytes v rest e = omega (arith, ap length (x.takes bytes v rest e).1, length-append (t v) rest)

-- where two spellings begin the same bytes, they are one
pub one_spelling : {V : Type 0} {read : List ℕ → Option (V × List ℕ)} {F : V → Type 0}
    {t : V → List ℕ} → Exact read F t
    → (v w : V) (more others : List ℕ) → F v → F w → t v ++ more ≡ t w ++ others
    → (v ≡ w) × (more ≡ others)
one_spelling {V} {read} {F} {t} x v w more others f g e = some_pair_parts v w more others (sym (x.again v more f) ∙ ap read e ∙ x.again w others g)
