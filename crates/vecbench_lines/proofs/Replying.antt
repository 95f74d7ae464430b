-- Replies to lines, one after another.
use Rattle.std.proofs.Common.{arith, ◌≡◌, ◌∙◌, ap, sym, refl, subst, ℕ, ◌+◌, ◌||◌, Bool, true, false, List, [], ◌∷◌}
use Rattle.std.proofs.Common.{◌++◌, length, Option, Result, Ok, Err, OnOk}
use Rattle.std.proofs.lemmas.List.{append-nil, append_assoc, length-append}
use Rattle.std.proofs.KnownBytes.{Appends-trans}
use Rattle.std.specs.Io.KnownBytes.{Appends}
use Rattle.vecbench_lines.specs.declared.serve.Session.{Session}
use Rattle.vecbench_lines.specs.Served.{IsReply, counted, AreReplies, Progress}

-- an `or` with what fails, and with what holds
pub or-false : (a : Bool) → (a || false) ≡ a
or-false true = refl
or-false false = refl

pub or-true : (a : Bool) → (a || true) ≡ true
or-true true = refl
or-true false = refl

pub or-assoc : (a b c : Bool) → ((a || b) || c) ≡ (a || (b || c))
or-assoc true b c = refl
or-assoc false b c = refl

-- the reply to one line more
pub AreReplies-snoc : (n : ℕ) (lines : List (List ℕ)) (line text reply : List ℕ) (faulty this : Bool)
    → AreReplies n lines text faulty → IsReply (counted (n + length lines + 1)) line reply this
    → AreReplies n (lines ++ line ∷ []) (text ++ reply) (faulty || this)
AreReplies-snoc n [] line text reply faulty this before is =
    let number : counted (n + 0 + 1) ≡ counted (n + 1) = ap (λ m. counted (m + 1)) (omega arith) in (
      reply,
      [],
      this,
      false,
      subst (λ m. IsReply m line reply this) number is,
      (refl, refl),
      ap
          (λ t. t ++ reply) before.0 ∙ sym (append-nil reply),
      ap (λ b. b || this) before.1 ∙ sym (or-false this),
    )
AreReplies-snoc n (first ∷ lines) line text reply faulty this before is =
    let sum : n + length (first ∷ lines) ≡ n + 1 + length lines = omega arith in
    let number : counted (n + length (first ∷ lines) + 1) ≡ counted (n + 1 + length lines + 1) =
    ap (λ m. counted (m + 1)) sum in (
      before.0,
      before.1 ++ reply,
      before.2,
      before.3 || this,
      before.4,
      AreReplies-snoc (n + 1) lines line before.1 reply before.3 this before.5 (subst (λ m. IsReply m line reply this) number is),
      ap (λ t. t ++ reply) before.6 ∙ append_assoc before.0 before.1 reply,
      ap (λ b. b || this) before.7 ∙ or-assoc before.2 before.3 this,
    )

-- counting one line more
pub counted-step : (n : ℕ) → counted (counted n + 1) ≡ counted (n + 1)
counted-step n = grind arith

-- a session that replied to one line more
pub Progress-snoc : (lines : List (List ℕ)) (start old new : Option (List ℕ)) (s t : Session) (line reply : List ℕ)
    (this : Bool) → Progress lines start old s
    → IsReply t.lines line reply this → Appends old new reply → t.has_fault ≡ (s.has_fault || this) → t.lines
    ≡ counted (s.lines + 1) → Progress (lines ++ line ∷ []) start new t
Progress-snoc lines start old new s t line reply this before is written fault count =
    let more : counted (s.lines + 1) ≡ counted (length lines + 1) = ap (λ m. counted (m + 1)) before.count
    ∙ counted-step (length lines) in
    let number : t.lines ≡ counted (0 + length lines + 1) = count ∙ more ∙ ap (λ m. counted (m + 1)) (omega arith) in
    record {
      text = before.text ++ reply;
      replies = subst (λ b. AreReplies 0 (lines ++ line ∷ []) (before.text ++ reply) b) (sym fault)
          (AreReplies-snoc 0 lines line before.text reply s.has_fault this before.replies
          (subst (λ m. IsReply m line reply this) number is));
      count = count ∙ more ∙ ap counted (sym (length-append lines (line ∷ [])));
      written = Appends-trans start old new before.text reply before.written written;
    }

-- what follows where a call succeeds
pub on_ok-map : {E P Q : Type 0} (r : Result (Unit {0}) E) → (P → Q) → OnOk r P → OnOk r Q
on_ok-map (Ok _) f p = f p
on_ok-map (Err _) f p = p

pub on-ok : {E P : Type 0} (r : Result (Unit {0}) E) → P → OnOk r P
on-ok (Ok _) p = p
on-ok (Err _) p = tt
