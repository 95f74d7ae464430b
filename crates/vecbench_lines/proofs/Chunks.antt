-- The lines that end in a chunk.
use Rattle.std.proofs.Common.{◌≡◌, ◌∙◌, ap, sym, subst, ℕ, List, [], ◌∷◌, ◌++◌, Option}
use Rattle.std.proofs.lemmas.List.{append_assoc, append-nil}
use Rattle.std.specs.Str.Lines.{strip_carriage_return}
use Rattle.vecbench_lines.specs.declared.serve.Session.{Session}
use Rattle.vecbench_lines.specs.Served.{AreReplies, Progress, Holds, MissesSome, Stands, ended_lines, last_part}
use Rattle.vecbench_lines.specs.Served.{ended_in, left_of}

-- how far a chunk was taken, where the session stood at `taken` with `whole` behind it, and now stands with `rest` behind
pub record Underway (lines : List (List ℕ)) (taken : List ℕ) (whole rest : List (List ℕ))
    (start new : Option (List ℕ)) (s : Session) : Type 0 where
  pub done : List (List ℕ)
  pub line : List ℕ
  pub stands : Stands done line start new s
  pub ended : done ++ ended_lines line rest ≡ lines ++ ended_lines taken whole
  pub last : last_part line rest ≡ last_part taken whole

-- what a session replied is as it was where its counts are
pub Progress-same : (lines : List (List ℕ)) (start new : Option (List ℕ)) (s t : Session) → t.lines ≡ s.lines
    → t.has_fault ≡ s.has_fault → Progress lines start new s → Progress lines start new t
Progress-same lines start new s t count fault p = record {
  text = p.text;
  replies = subst (λ b. AreReplies 0 lines p.text b) (sym fault) p.replies;
  count = count ∙ p.count;
  written = p.written;
}

-- a session that ended its line and took the first piece of the next
pub Underway-step : (lines : List (List ℕ)) (taken piece : List ℕ) (whole text behind : List (List ℕ))
    (start old new : Option (List ℕ)) (r s t : Session) → (u : Underway lines taken whole text start old r)
    → text ≡ piece ∷ behind → Progress (u.done ++ strip_carriage_return u.line ∷ []) start new s → t.lines ≡ s.lines
    → t.has_fault ≡ s.has_fault → Holds t piece → MissesSome t piece
    → Underway lines taken whole behind start new t
Underway-step lines taken piece whole text behind start old new r s t u cut p count fault h m = record {
  done = u.done ++ strip_carriage_return u.line ∷ [];
  line = piece;
  stands = record { progress = Progress-same _ start new s t count fault p; holds = h; misses = m };
  ended = append_assoc u.done (strip_carriage_return u.line ∷ []) (ended_lines piece behind)
      ∙ ap (λ parts. u.done ++ ended_lines u.line parts) (sym cut) ∙ u.ended;
  last = ap (λ parts. last_part u.line parts) (sym cut) ∙ u.last;
}

-- a session that took a first piece
pub Stands-take : (lines : List (List ℕ)) (taken piece : List ℕ) (start new : Option (List ℕ)) (s t : Session)
    → Stands lines taken start new s → t.lines ≡ s.lines → t.has_fault ≡ s.has_fault
    → Holds t (taken ++ piece) → MissesSome t (taken ++ piece) → Stands lines (taken ++ piece) start new t
Stands-take lines taken piece start new s t stood count fault h m =
    record { progress = Progress-same lines start new s t count fault stood.progress; holds = h; misses = m }

-- a session that took a whole chunk
pub Underway-end : (lines : List (List ℕ)) (taken piece : List ℕ) (whole rest parts : List (List ℕ)) (start new : Option (List ℕ))
    (s : Session) → Underway lines (taken ++ piece) whole rest start new s
    → rest ≡ [] → parts ≡ piece ∷ whole → Stands (lines ++ ended_in taken parts) (left_of taken parts) start new s
Underway-end lines taken piece whole rest parts start new s u none cut =
    let ended : u.done ≡ lines ++ ended_in taken parts =
    sym (append-nil u.done) ∙ ap (λ ps. u.done ++ ended_lines u.line ps) (sym none) ∙ u.ended
    ∙ ap (λ ps. lines ++ ended_in taken ps) (sym cut) in
    let left : u.line ≡ left_of taken parts = ap (λ ps. last_part u.line ps) (sym none) ∙ u.last
    ∙ ap (λ ps. left_of taken ps) (sym cut) in
    subst (λ ls. Stands ls (left_of taken parts) start new s) ended (subst (λ l. Stands u.done l start new s) left u.stands)
