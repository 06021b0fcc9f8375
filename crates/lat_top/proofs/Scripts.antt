-- Following a script: one after another, and where files are told and nothing fails.
use Rattle.std.proofs.Common.{IsErrAnd, ◌≡◌, ◌≤◌, ◌+◌, ℕ, Option, Some, Result, Ok, Err, refl, ap, sym, ◌∙◌, subst, inl, inr, arith}
use Rattle.lat_shelf.specs.Shelf.{Files, Rose}
use Rattle.lat_top.specs.declared.refusal.Refusal.{Refusal}
use Rattle.lat_top.specs.declared.refusal.Refusal.TheVariants as r
use Rattle.lat_top.specs.Script.{Script, Read, Refuse, Find, Give, ◌>>=◌, find, judge, Follows, Gives, Moment, Outcome, Reads}
use Rattle.lat_top.specs.Judged.{Found, Judged}

-- an error is the same whatever it stands in for
err_as : {A B : Type 0} (e d : Refusal) → ◌≡◌ {A = Result A Refusal} (Err e) (Err d) → ◌≡◌ {A = Result B Refusal} (Err e) (Err d)
err_as e d h = let same : e ≡ d = cc in ap Err same

-- a fault of a part is one of the whole
follows_wider : {A : Type 0} (script : Script A) (files : Option Files) (F G : Type 0)
    (result : Result A Refusal) → (F → G)
    → Follows script files F result → Follows script files G result
follows_wider (Give a) files F G result wider h = h
follows_wider (Refuse refusal) files F G result wider h = h
follows_wider (Find says next) files F G result wider h = elim h [
  | inl some ↦ inl (some.0, some.1, follows_wider (next some.0) files F G result wider some.2)
  | inr refused ↦ inr refused
]
follows_wider (Read name limit next) files F G result wider h = elim h [
  | inl fault ↦ inl (fault.0, elim fault.1 [ inl rose ↦ inl (wider rose) | inr missing ↦ inr missing ])
  | inr rest ↦ elim rest [
    | inl longer ↦ inr (inl longer)
    | inr more ↦ inr (inr (more.0, more.1, more.2, follows_wider (next more.0) files F G result wider more.3))
  ]
]

-- what was given was given without a fault
follows_ok : {A : Type 0} (script : Script A) (files : Option Files) (F G : Type 0) (a : A)
    → Follows script files F (Ok a) → Follows script files G (Ok a)
follows_ok (Give b) files F G a h = h
follows_ok (Refuse refusal) files F G a h = h
follows_ok (Find says next) files F G a h = elim h [
  | inl some ↦ inl (some.0, some.1, follows_ok (next some.0) files F G a some.2)
  | inr refused ↦ let bad = refused.2 in absurd cc
]
follows_ok (Read name limit next) files F G a h = elim h [
  | inl fault ↦ let bad = fault.0 in absurd cc
  | inr rest ↦ elim rest [
    | inl longer ↦ inr (inl longer)
    | inr more ↦ inr (inr (more.0, more.1, more.2, follows_ok (next more.0) files F G a more.3))
  ]
]

pub gives_ok : {A : Type 0} (script : Script A) (files : Option Files) (F G : Type 0) (a : A)
    → Gives script files F (Ok a) → Gives script files G (Ok a)
gives_ok script files F G a h = record {
  how = elim h.how [
    | inl memory ↦ inl memory
    | inr how ↦ inr (follows_ok script files F G a how)
  ];
}

-- the first script was refused
follows_err : {A B : Type 0} (first : Script A) (next : A → Script B) (files : Option Files)
    (F : Type 0) (refusal : Refusal)
    → Follows first files F (Err refusal) → Follows (first >>= next) files F (Err refusal)
follows_err (Give a) next files F refusal h = absurd cc
follows_err (Refuse refused) next files F refusal h = err_as refusal refused h
follows_err (Find says go) next files F refusal h = elim h [
  | inl some ↦ inl (some.0, some.1, follows_err (go some.0) next files F refusal some.2)
  | inr refused ↦ inr (refused.0, refused.1, err_as refusal refused.0 refused.2)
]
follows_err (Read name limit go) next files F refusal h = elim h [
  | inl fault ↦ inl (err_as refusal r.ReadFault fault.0, fault.1)
  | inr rest ↦ elim rest [
    | inl longer ↦ inr (inl (err_as refusal (r.TooLong (limit + 1)) longer.0, longer.1))
    | inr more ↦ inr (inr (more.0, more.1, more.2, follows_err (go more.0) next files F refusal more.3))
  ]
]

-- the first script gave a
follows_then : {A B : Type 0} (first : Script A) (next : A → Script B) (files : Option Files)
    (F : Type 0) (a : A) (result : Result B Refusal)
    → Follows first files F (Ok a) → Follows (next a) files F result
    → Follows (first >>= next) files F result
follows_then (Give b) next files F a result h more =
    let same : a ≡ b = cc in
    subst (λ x. Follows (next x) files F result) same more
follows_then (Refuse refused) next files F a result h more = absurd cc
follows_then (Find says go) next files F a result h more = elim h [
  | inl some ↦ inl (some.0, some.1, follows_then (go some.0) next files F a result some.2 more)
  | inr refused ↦ let bad = refused.2 in absurd cc
]
follows_then (Read name limit go) next files F a result h more = elim h [
  | inl fault ↦ let bad = fault.0 in absurd cc
  | inr rest ↦ elim rest [
    | inl longer ↦ let bad = longer.0 in absurd cc
    | inr file ↦ inr (inr (file.0, file.1, file.2, follows_then (go file.0) next files F a result file.3 more))
  ]
]

-- a fault that rose in a part of a call rose in the call
pub rose_wider : (begin before after end : ℕ) → begin ≤ before → after ≤ end → Rose before after
    → Rose begin end
rose_wider begin before after end first last h = grind arith

-- the first script was refused
pub gives_err : {A B : Type 0} (first : Script A) (next : A → Script B) (files : Option Files)
    (F : Type 0) (refusal : Refusal)
    → Gives first files F (Err refusal) → Gives (first >>= next) files F (Err refusal)
gives_err first next files F refusal h = record {
  how = elim h.how [
    | inl memory ↦ inl (err_as refusal r.Memory memory)
    | inr how ↦ inr (follows_err first next files F refusal how)
  ];
}

-- the first script gave a, and the second went on at a later moment over the same files
pub gives_then : {A B : Type 0} (first : Script A) (next : A → Script B)
    (files later : Option Files) (begin middle end : ℕ) (a : A) (result : Result B Refusal)
    → later ≡ files → begin ≤ middle → middle ≤ end
    → Gives first files (Rose begin middle) (Ok a) → Gives (next a) later (Rose middle end) result
    → Gives (first >>= next) files (Rose begin end) result
gives_then first next files later begin middle end a result same up on h more = elim h.how [
  | inl memory ↦ absurd cc
  | inr how ↦ record {
    how = elim more.how [
      | inl memory ↦ inl memory
      | inr rest ↦ inr (follows_then first next files (Rose begin end) a result
          (follows_wider first files (Rose begin middle) (Rose begin end) (Ok a) (rose_wider begin begin middle end (omega arith) on) how)
          (subst (λ (fs : Option Files). Follows (next a) fs (Rose begin end) result) same
          (follows_wider (next a) later (Rose middle end) (Rose begin end) result (rose_wider begin middle end end up (omega arith)) rest)))
    ];
  }
]

-- the first script gave a, and the second went on without reading
pub gives_on : {A B : Type 0} (first : Script A) (next : A → Script B) (files : Option Files)
    (F : Type 0) (a : A) (result : Result B Refusal)
    → Gives first files F (Ok a) → Gives (next a) files F result
    → Gives (first >>= next) files F result
gives_on first next files F a result h more = elim h.how [
  | inl memory ↦ absurd cc
  | inr how ↦ record {
    how = elim more.how [
      | inl memory ↦ inl memory
      | inr rest ↦ inr (follows_then first next files F a result how rest)
    ];
  }
]

-- what was judged
pub judged : {A : Type 0} (said : Result A Refusal) (files : Option Files) (F : Type 0)
    (result : Result A Refusal) → Judged result said → Gives (judge said) files F result
judged said files F (Ok a) h = record { how = inr (subst (λ x. Follows (judge x) files F (Ok a)) (sym h) refl) }
judged said files F (Err r.Memory) h = record { how = inl refl }
judged said files F (Err refusal) h = record { how = inr (subst (λ x. Follows (judge x) files F (Err refusal)) (sym h) refl) }

-- what was found
pub found : {A : Type 0} (says : Result A Refusal → Type 0) (files : Option Files) (F : Type 0)
    (result : Result A Refusal) → Found result says → Gives (find says) files F result
found says files F (Ok a) h = record { how = inr (inl (a, h, refl)) }
found says files F (Err r.Memory) h = record { how = inl refl }
found says files F (Err refusal) h = record { how = inr (inr (refusal, h, refl)) }

pub given : {A : Type 0} (a : A) (files : Option Files) (F : Type 0) → Gives (Give a) files F (Ok a)
given a files F = record { how = inr refl }

pub memory : {A : Type 0} (script : Script A) (files : Option Files) (F : Type 0)
    → Gives script files F (Err r.Memory)
memory script files F = record { how = inl refl }

-- where files are told and nothing failed, what a script came to is its outcome
pub follows_outcome : {A : Type 0} (script : Script A) (files : Files) (F : Type 0)
    (result : Result A Refusal) → ¬ F → Follows script (Some files) F result
    → Outcome script files result
follows_outcome script files F result none h = follows_wider script (Some files) F ⊥ result none h

-- the first script gave a, and what was found of the same is what was judged
pub gives_judged : {A B : Type 0} (first : Script A) (said : A → Result B Refusal)
    (files : Option Files) (F : Type 0) (a seen : A) (result : Result B Refusal)
    → Gives first files F (Ok a) → seen ≡ a → Judged result (said seen)
    → Gives (first >>= λ x. judge (said x)) files F result
gives_judged first said files F a seen result h same more =
    gives_on first (λ x. judge (said x)) files F a result h (judged (said a) files F result (subst (λ x. Judged result (said x)) same more))

-- the first script was refused
pub reads_err : {A B : Type 0} (first : Script A) (next : A → Script B) (before after : Moment)
    (refusal : Refusal) → Reads first before after (Err refusal)
    → Reads (first >>= next) before after (Err refusal)
reads_err first next before after refusal h =
    record { gives = gives_err first next before.files (Rose before.faults after.faults) refusal h.gives; files = h.files; faults = h.faults }

-- the first script gave a, and then came the second
pub reads_then : {A B : Type 0} (first : Script A) (next : A → Script B)
    (before middle after : Moment) (a : A) (result : Result B Refusal)
    → Reads first before middle (Ok a)
    → Reads (next a) middle after result → Reads (first >>= next) before after result
reads_then first next before middle after a result h more = record {
  gives = gives_then first next before.files middle.files before.faults middle.faults after.faults a result h.files h.faults more.faults h.gives more.gives;
  files = more.files ∙ h.files;
  faults = omega (arith, h.faults, more.faults);
}

-- the first script gave a, and what was found of it is what was judged
pub reads_judged : {A B : Type 0} (first : Script A) (said : A → Result B Refusal)
    (before after : Moment) (a : A) (result : Result B Refusal) → Reads first before after (Ok a)
    → Judged result (said a) → Reads (first >>= λ x. judge (said x)) before after result
reads_judged first said before after a result h more =
    record { gives = gives_judged first said before.files (Rose before.faults after.faults) a a result h.gives refl more; files = h.files; faults = h.faults }

-- the first script gave a, and this was found of it
pub reads_found : {A B : Type 0} (first : Script A) (says : A → Result B Refusal → Type 0)
    (before after : Moment) (a : A) (result : Result B Refusal) → Reads first before after (Ok a)
    → Found result (says a) → Reads (first >>= λ x. find (says x)) before after result
reads_found first says before after a result h more =
    let F = Rose before.faults after.faults in
    record {
      gives = gives_on first (λ x. find (says x)) before.files F a result h.gives
          (found (says a) before.files F result more);
      files = h.files;
      faults = h.faults;
    }

-- the first script gave a, of which this was made
pub reads_given : {A B : Type 0} (first : Script A) (made : A → B) (before after : Moment) (a : A)
    → Reads first before after (Ok a)
    → Reads (first >>= λ x. Give (made x)) before after (Ok (made a))
reads_given first made before after a h = record {
  gives = gives_on first (λ x. Give (made x)) before.files (Rose before.faults after.faults) a (Ok (made a)) h.gives (given (made a) before.files (Rose before.faults after.faults));
  files = h.files;
  faults = h.faults;
}

-- a refusal that was handed on by a `?`
pub reads_handed : {A : Type 0} (script : Script A) (before after : Moment) (refusal : Refusal)
    (result : Result A Refusal) → IsErrAnd result (λ e. e ≡ refusal)
    → Reads script before after (Err refusal)
    → Reads script before after result
reads_handed script before after refusal (Ok a) is h = absurd is
reads_handed script before after refusal (Err other) is h = subst (λ (x : Refusal). Reads script before after (Err x)) (sym is) h
