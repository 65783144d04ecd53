-- Reading a table gives a record exactly where its lines are spelled, and refuses exactly where the next line breaks.
use Rattle.std.proofs.Common.{◌≡◌, ℕ, ◌-◌, Bool, true, false, cond, List, [], ◌∷◌, ◌++◌, length}
use Rattle.std.proofs.Common.{refl, sym, ap, subst, ◌∙◌, append_assoc, arith, inl, inr}
use Rattle.std.specs.Prelude.{◌⊎◌, if◌then◌else◌}
use Rattle.std.proofs.lemmas.List.{append-nil, length-append}
use Rattle.hevc_spec.specs.declared.Row.{Row}
use Rattle.hevc_spec.specs.Bits.{Form, IsSpelled, Found, found, out_of_bounds, ended, form_at, within}
use Rattle.hevc_spec.specs.Table.{Table, done, missing, element, sized, part, Fault, out_of_bits}
use Rattle.hevc_spec.specs.Table.{out_of_range, not_kept, Reading, gives, refuses, reading_then}
use Rattle.hevc_spec.specs.Table.{line_found, read}
use Rattle.hevc_spec.specs.Lines.{Head, Line, AreGood, joined, HasLines, Next, line, lacks, HasNext}
use Rattle.hevc_spec.specs.Lines.{SpellsOther, Breaks, Spells, BreaksOff}
use Rattle.hevc_reading_laws.proofs.FormLaws.{form_front, form_spelled, form_great}
use Rattle.hevc_reading_laws.proofs.FormLaws.{form_great_again, form_ended, form_ended_again}

pub AreGood-append : (a b : List Line) → AreGood a → AreGood b → AreGood (a ++ b)
AreGood-append [] b p q = q
AreGood-append (l ∷ a) b p q = (p.0, AreGood-append a b p.1 q)

pub joined-append : (a b : List Line) → joined (a ++ b) ≡ joined a ++ joined b
joined-append [] b = refl
joined-append (l ∷ a) b = ap (λ (x : List Bool). l.bits ++ x) (joined-append a b)
    ∙ sym (append_assoc l.bits (joined a) (joined b))

pub AreGood-front : (a b : List Line) → AreGood (a ++ b) → AreGood a
AreGood-front [] b p = tt
AreGood-front (l ∷ a) b p = (p.0, AreGood-front a b p.1)

pub AreGood-rest : (a b : List Line) → AreGood (a ++ b) → AreGood b
AreGood-rest [] b p = p
AreGood-rest (l ∷ a) b p = AreGood-rest a b p.1

gives_then : {A B : Type 0} (m : Reading A) (k : A → List Bool → Reading B) (r : B) (rest : List Bool)
    → reading_then m k ≡ gives r rest
    → (x : A) × (mid : List Bool) × (m ≡ gives x mid) × (k x mid ≡ gives r rest)
gives_then (gives x mid) k r rest e = (x, mid, refl, e)
gives_then (refuses f mid) k r rest e = absurd cc

refuses_then : {A B : Type 0} (m : Reading A) (k : A → List Bool → Reading B) (f : Fault) (rest : List Bool)
    → reading_then m k ≡ refuses f rest
    → (m ≡ refuses f rest) ⊎ ((x : A) × (mid : List Bool) × (m ≡ gives x mid) × (k x mid ≡ refuses f rest))
refuses_then (gives x mid) k f rest e = inr (x, mid, refl, e)
refuses_then (refuses g mid) k f rest e = inl (cc)

chosen : (b : Bool) (x y z : Found) → cond b x y ≡ z → ((b ≡ true) × (x ≡ z)) ⊎ ((b ≡ false) × (y ≡ z))
chosen true x y z e = inl (refl, e)
chosen false x y z e = inr (refl, e)

-- ---- what is read is spelled

line_spelled : {A : Type 0} (row : Row) (form : Form) (allowed : ℕ → Bool) (value : ℕ
    → A) (bits : List Bool) (r : A) (rest : List Bool) (f : Found) → form_at form bits ≡ f
    → line_found row value bits (within allowed f) ≡ gives r rest → Spells (element row form allowed value) r bits rest
line_spelled row form allowed value bits r rest out_of_bounds e h = absurd cc
line_spelled row form allowed value bits r rest ended e h = absurd cc
line_spelled row form allowed value bits r rest (found v mid) e h = by_test (allowed v) refl h
  where
    by_test : (b : Bool) → allowed v ≡ b
        → line_found row value bits (if b then found v mid else out_of_bounds) ≡ gives r rest
        → Spells (element row form allowed value) r bits rest
    by_test false t g = absurd cc
    by_test true t g =
        let s = form_front form bits v mid e in
        let same : mid ≡ rest = cc in
        let l : Line = record {
          head = record { row = row; form = form; allowed = allowed };
          value = v;
          bits = s.front;
        } in
        record {
          lines = l ∷ [];
          has = (v, s.front, cc, refl);
          good = ((t, s.spelled), tt);
          parts = s.parts ∙ ap (λ (x : List Bool). s.front ++ x) same
              ∙ ap (λ (x : List Bool). x ++ rest) (sym (append-nil s.front));
        }

pub spelled_from_read : {A : Type 0} (t : Table A) (bits : List Bool) (r : A) (rest : List Bool)
    → read t bits ≡ gives r rest → Spells t r bits rest
spelled_from_read (done x) bits r rest e = record { lines = []; has = (cc, refl); good = tt; parts = cc }
spelled_from_read (missing row id) bits r rest e = absurd cc
spelled_from_read (element row form allowed value) bits r rest e =
    line_spelled row form allowed value bits r rest (form_at form bits) refl e
spelled_from_read (sized t f) bits r rest e =
    let m = gives_then (read t bits) (λ x rest. gives (f x (length bits - length rest)) rest) r rest e in
    let s = spelled_from_read t bits m.0 m.1 m.2 in
    let len : length bits - length m.1 ≡ length (joined s.lines) =
    omega (arith, ap length s.parts, length-append (joined s.lines) m.1) in
    let same : m.1 ≡ rest = cc (m.3) in
    let is : f m.0 (length bits - length m.1) ≡ r = cc (m.3) in
    record {
      lines = s.lines;
      has = (m.0, s.has, ap (f m.0) (sym len) ∙ is);
      good = s.good;
      parts = s.parts ∙ ap (λ (x : List Bool). joined s.lines ++ x) same;
    }
spelled_from_read (part t k) bits r rest e =
    let m = gives_then (read t bits) (λ x rest. read (k x) rest) r rest e in
    let s = spelled_from_read t bits m.0 m.1 m.2 in
    let o = spelled_from_read (k m.0) m.1 r rest m.3 in
    record {
      lines = s.lines ++ o.lines;
      has = (m.0, s.lines, o.lines, s.has, o.has, refl);
      good = AreGood-append s.lines o.lines s.good o.good;
      parts = s.parts ∙ ap (λ (x : List Bool). joined s.lines ++ x) o.parts
          ∙ sym (append_assoc (joined s.lines) (joined o.lines) rest)
          ∙ ap (λ (x : List Bool). x ++ rest) (sym (joined-append s.lines o.lines));
    }

-- ---- what is spelled is read

pub read_lines : {A : Type 0} (t : Table A) (r : A) (ls : List Line) (rest : List Bool) → HasLines t r ls
    → AreGood ls → read t (joined ls ++ rest) ≡ gives r rest
read_lines (done x) r ls rest h g = rw (h.0, h.1) refl
read_lines (missing row id) r ls rest h g = absurd h
read_lines (element row form allowed value) r ls rest h g =
    let l : Line = record { head = record { row = row; form = form; allowed = allowed }; value = h.0; bits = h.1 } in
    let good : AreGood (l ∷ []) = subst AreGood h.3 g in
    let at : form_at form (h.1 ++ rest) ≡ found h.0 rest = form_spelled form h.0 h.1 rest good.0.1 in
    let all : joined ls ++ rest ≡ h.1 ++ rest = ap (λ (x : List Line). joined x ++ rest) h.3
    ∙ ap (λ (x : List Bool). x ++ rest) (append-nil h.1) in
    let ok : allowed h.0 ≡ true = good.0.0 in
    rw (all, at, ok, h.2) refl
read_lines (sized t f) r ls rest h g =
    let e = read_lines t h.0 ls rest h.1 g in
    let len : length (joined ls ++ rest) - length rest ≡ length (joined ls) =
    omega (arith, length-append (joined ls) rest) in
    rw (e, len, h.2) refl
read_lines (part t k) r ls rest h g =
    let first = h.1 in
    let others = h.2 in
    let good : AreGood (first ++ others) = subst AreGood h.5 g in
    let all : joined ls ++ rest ≡ joined first ++ (joined others ++ rest) =
    ap (λ (x : List Line). joined x ++ rest) h.5
    ∙ ap (λ (x : List Bool). x ++ rest) (joined-append first others)
    ∙ append_assoc (joined first) (joined others) rest in
    let e = read_lines t h.0 first (joined others ++ rest) h.3 (AreGood-front first others good) in
    let o = read_lines (k h.0) r others rest h.4 (AreGood-rest first others good) in
    rw (all, e) o

pub read_from_spelled : {A : Type 0} (t : Table A) (bits : List Bool) (r : A) (rest : List Bool)
    → Spells t r bits rest → read t bits ≡ gives r rest
read_from_spelled t bits r rest s = ap (read t) s.parts ∙ read_lines t r s.lines rest s.has s.good

-- ---- what is refused breaks off

line_breaks : {A : Type 0} (row : Row) (form : Form) (allowed : ℕ → Bool) (value : ℕ
    → A) (bits : List Bool) (fault : Fault) (rest : List Bool) (f : Found) → form_at form bits ≡ f
    → line_found row value bits (within allowed f) ≡ refuses fault rest
    → BreaksOff (element row form allowed value) fault bits rest
line_breaks row form allowed value bits fault rest out_of_bounds e h =
    let g = form_great form bits e in
    let is : out_of_range row ≡ fault = cc in
    let same : bits ≡ rest = cc in
    let head : Head = record { row = row; form = form; allowed = allowed } in
    record {
      lines = [];
      next = line head;
      has = (refl, refl);
      good = tt;
      parts = same;
      breaks = subst (λ (b : List Bool). Breaks (line head) b fault) same
          (subst (λ (d : Fault). Breaks (line head) bits d) is (refl, inr g));
    }
line_breaks row form allowed value bits fault rest ended e h =
    let g = form_ended form bits e in
    let is : out_of_bits ≡ fault = cc in
    let same : bits ≡ rest = cc in
    let head : Head = record { row = row; form = form; allowed = allowed } in
    record {
      lines = [];
      next = line head;
      has = (refl, refl);
      good = tt;
      parts = same;
      breaks = subst (λ (b : List Bool). Breaks (line head) b fault) same
          (subst (λ (d : Fault). Breaks (line head) bits d) is g);
    }
line_breaks row form allowed value bits fault rest (found v mid) e h = by_test (allowed v) refl h
  where
    by_test : (b : Bool) → allowed v ≡ b
        → line_found row value bits (if b then found v mid else out_of_bounds) ≡ refuses fault rest
        → BreaksOff (element row form allowed value) fault bits rest
    by_test true t g = absurd cc
    by_test false t g =
        let s = form_front form bits v mid e in
        let is : out_of_range row ≡ fault = cc in
        let same : bits ≡ rest = cc in
        let head : Head = record { row = row; form = form; allowed = allowed } in
        let other : SpellsOther head bits = record {
          value = v;
          front = s.front;
          behind = mid;
          parts = s.parts;
          spelled = s.spelled;
          not_allowed = t;
        } in
        record {
          lines = [];
          next = line head;
          has = (refl, refl);
          good = tt;
          parts = same;
          breaks = subst (λ (b : List Bool). Breaks (line head) b fault) same
              (subst (λ (d : Fault). Breaks (line head) bits d) is (refl, inl other));
        }

pub breaks_from_refused : {A : Type 0} (t : Table A) (bits : List Bool) (fault : Fault) (rest : List Bool)
    → read t bits ≡ refuses fault rest → BreaksOff t fault bits rest
breaks_from_refused (done x) bits fault rest e = absurd cc
breaks_from_refused (missing row id) bits fault rest e = record {
  lines = [];
  next = lacks row id;
  has = (refl, refl);
  good = tt;
  parts = cc;
  breaks = cc;
}
breaks_from_refused (element row form allowed value) bits fault rest e =
    line_breaks row form allowed value bits fault rest (form_at form bits) refl e
breaks_from_refused (sized t f) bits fault rest e =
    elim (refuses_then (read t bits) (λ x rest. gives (f x (length bits - length rest)) rest) fault rest e) [
      | inl h ↦ let b = breaks_from_refused t bits fault rest h in record {
        lines = b.lines;
        next = b.next;
        has = b.has;
        good = b.good;
        parts = b.parts;
        breaks = b.breaks;
      }
      | inr m ↦ absurd (cc (m.3))
    ]
breaks_from_refused (part t k) bits fault rest e =
    elim (refuses_then (read t bits) (λ x rest. read (k x) rest) fault rest e) [
      | inl h ↦ let b = breaks_from_refused t bits fault rest h in record {
        lines = b.lines;
        next = b.next;
        has = inl b.has;
        good = b.good;
        parts = b.parts;
        breaks = b.breaks;
      }
      | inr m ↦
          let s = spelled_from_read t bits m.0 m.1 m.2 in
          let b = breaks_from_refused (k m.0) m.1 fault rest m.3 in
          record {
            lines = s.lines ++ b.lines;
            next = b.next;
            has = inr (m.0, s.lines, b.lines, s.has, b.has, refl);
            good = AreGood-append s.lines b.lines s.good b.good;
            parts = s.parts ∙ ap (λ (x : List Bool). joined s.lines ++ x) b.parts
                ∙ sym (append_assoc (joined s.lines) (joined b.lines) rest)
                ∙ ap (λ (x : List Bool). x ++ rest) (sym (joined-append s.lines b.lines));
            breaks = b.breaks;
          }
    ]

-- ---- what breaks off is refused

element_refuses : {A : Type 0} (head : Head) (value : ℕ → A) (bits : List Bool) (fault : Fault)
    → Breaks (line head) bits fault
    → line_found head.row value bits (within head.allowed (form_at head.form bits)) ≡ refuses fault bits
element_refuses head value bits out_of_bits b = rw (form_ended_again head.form bits b) refl
element_refuses head value bits (not_kept row id) b = absurd b
element_refuses head value bits (out_of_range row) b =
    elim (b.1) [
      | inl s ↦
          let at : form_at head.form bits ≡ found s.value s.behind = ap (form_at head.form) s.parts
          ∙ form_spelled head.form s.value s.front s.behind s.spelled in
          let not : head.allowed s.value ≡ false = s.not_allowed in
          rw (at, not, b.0) refl
      | inr z ↦ rw (form_great_again head.form bits z.0 z.1, b.0) refl
    ]

next_refuses : {A : Type 0} (t : Table A) (ls : List Line) (next : Next) (fault : Fault) (rest : List Bool)
    → HasNext t ls next → AreGood ls → Breaks next rest fault
    → read t (joined ls ++ rest) ≡ refuses fault rest
next_refuses (done x) ls next fault rest h g b = absurd h
next_refuses (missing row id) ls next fault rest h g b =
    let is : fault ≡ not_kept row id = subst (λ (n : Next). Breaks n rest fault) h.0 b in
    rw (h.1, is) refl
next_refuses (element row form allowed value) ls next fault rest h g b =
    let head : Head = record { row = row; form = form; allowed = allowed } in
    let at : Breaks (line head) rest fault = subst (λ (n : Next). Breaks n rest fault) h.0 b in
    rw h.1 (element_refuses head value rest fault at)
next_refuses (sized t f) ls next fault rest h g b = rw (next_refuses t ls next fault rest h g b) refl
next_refuses (part t k) ls next fault rest h g b =
    elim h [
      | inl here ↦ rw (next_refuses t ls next fault rest here g b) refl
      | inr m ↦
          let first = m.1 in
          let others = m.2 in
          let good : AreGood (first ++ others) = subst AreGood m.5 g in
          let all : joined ls ++ rest ≡ joined first ++ (joined others ++ rest) =
          ap (λ (x : List Line). joined x ++ rest) m.5
          ∙ ap (λ (x : List Bool). x ++ rest) (joined-append first others)
          ∙ append_assoc (joined first) (joined others) rest in
          let e = read_lines t m.0 first (joined others ++ rest) m.3 (AreGood-front first others good) in
          let o = next_refuses (k m.0) others next fault rest m.4 (AreGood-rest first others good) b in
          rw (all, e) o
    ]

pub refused_from_breaks : {A : Type 0} (t : Table A) (bits : List Bool) (fault : Fault) (rest : List Bool)
    → BreaksOff t fault bits rest → read t bits ≡ refuses fault rest
refused_from_breaks t bits fault rest s =
    ap (read t) s.parts ∙ next_refuses t s.lines s.next fault rest s.has s.good s.breaks

-- ---- at most one record, and one list of lines

pub one_record : {A : Type 0} (t : Table A) (bits : List Bool) (r r' : A) (rest rest' : List Bool)
    → Spells t r bits rest → Spells t r' bits rest' → (r ≡ r') × (rest ≡ rest')
one_record t bits r r' rest rest' a b =
    let e = read_from_spelled t bits r rest a in
    let f = read_from_spelled t bits r' rest' b in
    (cc, cc)

same_behind : (a b x : List Bool) → a ++ x ≡ b ++ x → a ≡ b
same_behind [] [] x e = refl
same_behind [] (c ∷ b) x e = absurd (omega (arith, ap length e, length-append b x))
same_behind (c ∷ a) [] x e = absurd (omega (arith, ap length e, length-append a x))
same_behind (c ∷ a) (d ∷ b) x e =
    let h : c ≡ d = cc in
    let t : a ++ x ≡ b ++ x = cc in
    let s = same_behind a b x t in
    cc

-- no spelling of a form begins another, and none has two values
pub one_spelling : (form : Form) (v w : ℕ) (a b x y : List Bool) → IsSpelled form v a → IsSpelled form w b
    → a ++ x ≡ b ++ y → (v ≡ w) × (a ≡ b) × (x ≡ y)
one_spelling form v w a b x y p q e =
    let left = form_spelled form v a x p in
    let right = form_spelled form w b y q in
    let same : found v x ≡ found w y = sym left ∙ ap (form_at form) e ∙ right in
    let rest : x ≡ y = cc in
    let behind : a ++ x ≡ b ++ x = e ∙ ap (λ (z : List Bool). b ++ z) (sym rest) in
    (cc, same_behind a b x behind, rest)

-- Two lists of lines of a table that prefixes of one payload spell agree line by line.
pub lines_agree : {A : Type 0} (t : Table A) (r r' : A) (ls ls' : List Line) (x y : List Bool)
    → HasLines t r ls → HasLines t r' ls' → AreGood ls → AreGood ls' → joined ls ++ x ≡ joined ls' ++ y → ls ≡ ls'
lines_agree (done z) r r' ls ls' x y h h' g g' e = h.1 ∙ sym h'.1
lines_agree (missing row id) r r' ls ls' x y h h' g g' e = absurd h
lines_agree (element row form allowed value) r r' ls ls' x y h h' g g' e =
    let head : Head = record { row = row; form = form; allowed = allowed } in
    let make = λ (v : ℕ) (b : List Bool). let l : Line = record { head = head; value = v; bits = b } in l in
    let good : AreGood (make h.0 h.1 ∷ []) = subst AreGood h.3 g in
    let good' : AreGood (make h'.0 h'.1 ∷ []) = subst AreGood h'.3 g' in
    let left : joined ls ≡ h.1 = ap joined h.3 ∙ append-nil h.1 in
    let right : joined ls' ≡ h'.1 = ap joined h'.3 ∙ append-nil h'.1 in
    let bits : h.1 ++ x ≡ h'.1 ++ y = ap (λ (z : List Bool). z ++ x) (sym left) ∙ e
    ∙ ap (λ (z : List Bool). z ++ y) right in
    let same = one_spelling form h.0 h'.0 h.1 h'.1 x y good.0.1 good'.0.1 bits in
    h.3 ∙ ap (λ (v : ℕ). make v h.1 ∷ []) same.0 ∙ ap (λ (b : List Bool). make h'.0 b ∷ []) same.1 ∙ sym h'.3
lines_agree (sized t f) r r' ls ls' x y h h' g g' e = lines_agree t h.0 h'.0 ls ls' x y h.1 h'.1 g g' e
lines_agree (part {A = X} t k) r r' ls ls' x y h h' g g' e =
    let good : AreGood (h.1 ++ h.2) = subst AreGood h.5 g in
    let good' : AreGood (h'.1 ++ h'.2) = subst AreGood h'.5 g' in
    let left : joined ls ++ x ≡ joined h.1 ++ (joined h.2 ++ x) = ap (λ (z : List Line). joined z ++ x) h.5
    ∙ ap (λ (z : List Bool). z ++ x) (joined-append h.1 h.2) ∙ append_assoc (joined h.1) (joined h.2) x in
    let right : joined ls' ++ y ≡ joined h'.1 ++ (joined h'.2 ++ y) =
    ap (λ (z : List Line). joined z ++ y) h'.5 ∙ ap (λ (z : List Bool). z ++ y) (joined-append h'.1 h'.2)
    ∙ append_assoc (joined h'.1) (joined h'.2) y in
    let bits : joined h.1 ++ (joined h.2 ++ x) ≡ joined h'.1 ++ (joined h'.2 ++ y) = sym left ∙ e ∙ right in
    let first_good = AreGood-front h.1 h.2 good in
    let first_good' = AreGood-front h'.1 h'.2 good' in
    let first : h.1 ≡ h'.1 =
    lines_agree t h.0 h'.0 h.1 h'.1 (joined h.2 ++ x) (joined h'.2 ++ y) h.3 h'.3 first_good first_good' bits in
    let one = read_lines t h.0 h.1 (joined h.2 ++ x) h.3 first_good in
    let two = read_lines t h'.0 h'.1 (joined h'.2 ++ y) h'.3 first_good' in
    let same : gives h.0 (joined h.2 ++ x) ≡ gives h'.0 (joined h'.2 ++ y) = sym one ∙ ap (read t) bits ∙ two in
    let value : h.0 ≡ h'.0 = cc in
    let behind : joined h.2 ++ x ≡ joined h'.2 ++ y = cc in
    let others_has : HasLines (k h'.0) r h.2 = subst (λ (z : X). HasLines (k z) r h.2) value h.4 in
    let others : h.2 ≡ h'.2 =
    lines_agree (k h'.0) r r' h.2 h'.2 x y others_has h'.4 (AreGood-rest h.1 h.2 good)
    (AreGood-rest h'.1 h'.2 good') behind in
    h.5 ∙ ap (λ (z : List Line). z ++ h.2) first ∙ ap (λ (z : List Line). h'.1 ++ z) others ∙ sym h'.5
