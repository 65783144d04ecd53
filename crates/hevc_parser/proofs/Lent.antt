-- What reading a set answered, the call that lends the kept set did.
use Rattle.std.proofs.Common.{◌≡◌, ℕ, Bool, true, false, List, Result, Ok, Err, refl, ap, sym, subst, ◌∙◌, ◌==◌, arith}
use Rattle.std.proofs.lemmas.Bool.Decides.{nat_tests}
use Rattle.std.specs.Prelude.{IfOk, IfErr, ◌↔◌}
use Rattle.std.specs.Borrow.{Bor}
use Rattle.hevc_spec.specs.Table.{Table, Reading, gives, read}
use Rattle.hevc_elements.specs.declared.parse_error.ParseError.{ParseError}
use Rattle.hevc_elements.specs.declared.parse_error.ParseError.TheVariants.{WrongNaluType, NoMemory}
use Rattle.hevc_elements.specs.Sets.{RefusesSet, ReadsSet, MeansSet, NamesNoSet}
use Rattle.hevc_parser.specs.Answers.{NamesNoPictureSet}
use Rattle.hevc_elements.proofs.SetMeaning.{set_found, set_only, set_refused, set_broken}

-- what is read is the kept set, or an allocation fails
pub lent_reads : {X A : Type 0} (view : X → A) (x : X) (r : Result (Bor X) ParseError) (reading : Reading A)
    → IfOk r (λ kept. kept.now ≡ x) → IfErr r (λ e. e ≡ NoMemory) → ReadsSet view (Ok x) reading
    → ReadsSet (λ (kept : Bor X). view kept.now) r reading
lent_reads {X = X} view x (Ok kept) reading same refused h = (h.0, h.1 ∙ ap (λ (y : X). gives (view y) h.0) (sym same))
lent_reads view x (Err e) reading same refused h = subst (λ (f : ParseError). RefusesSet f reading) (sym refused) tt

pub lent_type : {X P : Type 0} (x : X) (r : Result (Bor X) ParseError) → IfErr r (λ e. e ≡ NoMemory)
    → (Ok x ≡ Err WrongNaluType) ↔ (P → ⊥) → (r ≡ Err WrongNaluType) ↔ (P → ⊥)
lent_type x (Ok kept) refused t = (λ h. absurd (cc h), λ h. absurd (cc (t.1 h)))
lent_type x (Err e) refused t = (λ h. absurd (cc (h, refused)), λ h. absurd (cc (t.1 h)))

pub lent_names : {X : Type 0} (r : Result X ParseError) → IfErr r (λ e. e ≡ NoMemory) → IfErr r NamesNoSet
lent_names (Ok x) refused = tt
lent_names (Err e) refused = subst NamesNoSet (sym refused) tt

pub lent_names_no_picture_set : {X : Type 0} (r : Result X ParseError) → IfErr r (λ e. e ≡ NoMemory)
    → IfErr r NamesNoPictureSet
lent_names_no_picture_set (Ok x) refused = tt
lent_names_no_picture_set (Err e) refused = subst NamesNoPictureSet (sym refused) tt

pub lent_fact : {X : Type 0} (Fact : X → Type 0) (x : X) (r : Result (Bor X) ParseError)
    → IfOk r (λ kept. kept.now ≡ x) → Fact x → IfOk r (λ kept. Fact kept.now)
lent_fact Fact x (Ok kept) same h = subst Fact (sym same) h
lent_fact Fact x (Err e) same h = tt

-- the meaning of what reading answered
pub means_by : {X A : Type 0} (view : X → A) (t : Table A) (payload : List Bool) (r : Result X ParseError)
    → ReadsSet view r (read t payload) → MeansSet view t r payload
means_by view t payload r h = record {
  found = set_found view t payload r h;
  only = set_only view t payload r h;
  refused = set_refused view t payload r h;
  broken = set_broken view t payload r h;
}

by_test : (n k : ℕ) (b : Bool) → (n == k) ≡ b → ((n ≡ k → ⊥) → ⊥) → n ≡ k
by_test n k true is unless = grind (arith, nat_tests)
by_test n k false is unless =
    absurd (unless (λ e. let same : (n == k) ≡ true = grind (arith, nat_tests) in absurd (cc (is, same))))

-- what was read is a unit of the type
pub is_type : {X : Type 0} (x : X) (n k : ℕ) → (Ok x ≡ Err WrongNaluType) ↔ (n ≡ k → ⊥) → n ≡ k
is_type x n k t = by_test n k (n == k) refl (λ other. absurd (cc (t.1 other)))
