-- The lines of a text that comes in two pieces.
use Rattle.std.proofs.Common.{arith, ◌≡◌, ◌∙◌, ap, sym, refl, subst, ℕ, ◌<◌, ◌==◌, Bool, true, false, cond, List, []}
use Rattle.std.proofs.Common.{◌∷◌, ◌++◌, length, if◌then◌else◌, Option, Some, None}
use Rattle.std.proofs.lemmas.List.{append_assoc, append-nil}
use Rattle.std.proofs.lemmas.Bool.{true≢false}
use Rattle.std.proofs.lemmas.List.Splits.{length-slice_split}
use Rattle.std.specs.List.{onto_first}
use Rattle.std.specs.Str.Lines.{lines, lines_of_parts, strip_carriage_return}
use Rattle.std.specs.Io.KnownBytes.{Consumes, Keeps, IsAtEnd}
use Rattle.std.proofs.KnownBytes.{Appends-kept, Appends-nil}
use Rattle.vecbench_lines.specs.declared.serve.Session.{Session}
use Rattle.vecbench_lines.specs.declared.parts.Separator.TheVariants.{Newline}
use Rattle.vecbench_lines.specs.Parts.{parts_of, parts_at}
use Rattle.vecbench_lines.specs.Served.{Progress, Stands, ended_in, left_of}

-- the parts, the first of which stands behind what was taken
abbrev pub onto : List ℕ → List (List ℕ) → List (List ℕ)
onto taken [] = taken ∷ []
onto taken (part ∷ parts) = (taken ++ part) ∷ parts

-- the parts of two texts that stand side by side: the last one of the first text and the first one of the second are one
abbrev pub glue : List (List ℕ) → List (List ℕ) → List (List ℕ)
glue [] qs = qs
glue (p ∷ []) qs = onto p qs
glue (p ∷ r ∷ more) qs = p ∷ glue (r ∷ more) qs

-- the lines of what was taken and a text behind it
abbrev pub lines_behind : List ℕ → List ℕ → List (List ℕ)
lines_behind taken text = lines_of_parts (onto taken (parts_of Newline text))

-- a text has a part
pub parts-some : (xs : List ℕ) → 0 < length (parts_of Newline xs)
parts-some xs = let count = length-slice_split (parts_at Newline) xs in omega (arith, count)

-- nothing stands before the first part
pub onto-nil : (ps : List (List ℕ)) → 0 < length ps → onto [] ps ≡ ps
onto-nil [] some = absurd (omega (arith, some))
onto-nil (p ∷ ps) some = refl

pub glue-some : (ps qs : List (List ℕ)) → 0 < length ps → 0 < length (glue ps qs)
glue-some [] qs some = absurd (omega (arith, some))
glue-some (p ∷ []) [] some = omega arith
glue-some (p ∷ []) (q ∷ qs) some = omega arith
glue-some (p ∷ r ∷ more) qs some = omega arith

-- one byte more before the first text
pub glue-cons : (b : Bool) (x : ℕ) (ps qs rs : List (List ℕ)) → 0 < length ps → rs ≡ glue ps qs
    → cond b ([] ∷ rs) (onto_first x rs) ≡ glue (cond b ([] ∷ ps) (onto_first x ps)) qs
glue-cons b x [] qs rs some is = absurd (omega (arith, some))
glue-cons true x (p ∷ ps) qs rs some is = ap (λ l. [] ∷ l) is
glue-cons false x (p ∷ []) [] rs some is = ap (λ l. onto_first x l) is
glue-cons false x (p ∷ []) (q ∷ qs) rs some is = ap (λ l. onto_first x l) is
glue-cons false x (p ∷ r ∷ more) qs rs some is = ap (λ l. onto_first x l) is

-- the parts of two texts side by side
pub parts-append : (xs ys : List ℕ) → parts_of Newline (xs ++ ys) ≡ glue (parts_of Newline xs) (parts_of Newline ys)
parts-append [] ys = sym (onto-nil (parts_of Newline ys) (parts-some ys))
parts-append (x ∷ xs) ys = glue-cons (parts_at Newline x) x (parts_of Newline xs) (parts_of Newline ys)
    (parts_of Newline (xs ++ ys)) (parts-some xs) (parts-append xs ys)

-- a part that others follow is a line that ends
pub lines_of_parts-cons : (p : List ℕ) (ps : List (List ℕ)) → 0 < length ps → lines_of_parts (p ∷ ps)
    ≡ strip_carriage_return p ∷ lines_of_parts ps
lines_of_parts-cons p [] some = absurd (omega (arith, some))
lines_of_parts-cons p (r ∷ more) some = refl

-- the lines of the parts side by side
pub lines_of_parts-glue : (taken : List ℕ) (ps qs : List (List ℕ)) → 0 < length ps → 0 < length qs
    → lines_of_parts (onto taken (glue ps qs)) ≡ ended_in taken ps ++ lines_of_parts (onto (left_of taken ps) qs)
lines_of_parts-glue taken [] qs some more = absurd (omega (arith, some))
lines_of_parts-glue taken (p ∷ []) [] some more = absurd (omega (arith, more))
lines_of_parts-glue taken (p ∷ []) (q ∷ qs) some more = ap (λ first. lines_of_parts (first ∷ qs)) (sym (append_assoc taken p q))
lines_of_parts-glue taken (p ∷ r ∷ others) qs some more =
    let there : 0 < length (glue (r ∷ others) qs) = glue-some (r ∷ others) qs (omega arith) in
    lines_of_parts-cons (taken ++ p) (glue (r ∷ others) qs) there ∙
    ap (λ ls. strip_carriage_return (taken ++ p) ∷ ls)
    (ap lines_of_parts (sym (onto-nil (glue (r ∷ others) qs) there)) ∙ lines_of_parts-glue [] (r ∷ others) qs (omega arith) more)

-- the lines behind what was taken, where a chunk of the text is taken next
pub lines_behind-append : (taken chunk rest : List ℕ) → lines_behind taken (chunk ++ rest)
    ≡ ended_in taken (parts_of Newline chunk) ++ lines_behind (left_of taken (parts_of Newline chunk)) rest
lines_behind-append taken chunk rest =
    ap (λ ps. lines_of_parts (onto taken ps)) (parts-append chunk rest) ∙
    lines_of_parts-glue taken (parts_of Newline chunk) (parts_of Newline rest) (parts-some chunk) (parts-some rest)

-- the last line, which no LF ends
pub lines_behind-nil : (taken : List ℕ) → lines_behind taken [] ≡ lines_of_parts (taken ∷ [])
lines_behind-nil taken = ap (λ line. lines_of_parts (line ∷ [])) (append-nil taken)

-- how far a text was read: the session stands behind some of its lines, and the reader has the rest
pub record Reading (text : List ℕ) (remaining start new : Option (List ℕ)) (s : Session) : Type 0 where
  pub done : List (List ℕ)
  pub taken : List ℕ
  pub rest : List ℕ
  pub reader : remaining ≡ Some rest
  pub stands : Stands done taken start new s
  pub whole : lines text ≡ done ++ lines_behind taken rest

-- what a read took of a known text
pub read-known : (rest bs : List ℕ) (new : Option (List ℕ)) → Consumes (Some rest) new bs → (more : List ℕ)
    × (new ≡ Some more) × (rest ≡ bs ++ more)
read-known rest bs None took = absurd took
read-known rest bs (Some more) took = (more, refl, took)

pub unended-some : (taken : List ℕ) → 0 < length taken → lines_of_parts (taken ∷ []) ≡ taken ∷ []
unended-some [] some = absurd (omega (arith, some))
unended-some (x ∷ xs) some =
    let more : (length (x ∷ xs) == 0) ≡ false = grind arith in
    ap (λ b. if b then [] else ((x ∷ xs) ∷ [])) more

-- what was replied is as it was where the writer is flushed
pub Progress-kept : (ls : List (List ℕ)) (start old new : Option (List ℕ)) (s : Session) → Keeps old new
    → Progress ls start old s → Progress ls start new s
Progress-kept ls start old new s kept p =
    record { text = p.text; replies = p.replies; count = p.count; written = Appends-kept start old new p.text p.written kept }

-- a session that begins
pub Stands-fresh : (start : Option (List ℕ)) (s : Session) → (s.is_stored ≡ true) × (s.line.items ≡ [])
    × (s.lines ≡ 0) × (s.has_fault ≡ false) → Stands [] [] start start s
Stands-fresh start s fresh = record {
  progress = record { text = []; replies = (refl, fresh.3); count = fresh.2; written = Appends-nil start };
  holds = λ stored. fresh.1;
  misses = λ lost. absurd (true≢false (sym fresh.0 ∙ lost));
}

-- what stands with a writer stands where that is flushed
pub Stands-kept : {ls : List (List ℕ)} {taken : List ℕ} {start old new : Option (List ℕ)} {s : Session}
    → Keeps old new → Stands ls taken start old s → Stands ls taken start new s
Stands-kept {ls} {taken} {start} {old} {new} {s} kept stood =
    record { progress = Progress-kept ls start old new s kept stood.progress; holds = stood.holds; misses = stood.misses }

-- a chunk was read and taken
pub Reading-chunk : {text : List ℕ} (chunk : List ℕ) {before after start old new : Option (List ℕ)} {s t : Session}
    → (r : Reading text before start old s) → Consumes before after chunk
    → Stands (r.done ++ ended_in r.taken (parts_of Newline chunk))
    (left_of r.taken (parts_of Newline chunk)) start new t → Reading text after start new t
Reading-chunk {text} chunk {before} {after} {start} {old} {new} {s} {t} r took stands =
    let read = read-known r.rest chunk after (subst (λ b. Consumes b after chunk) r.reader took) in
    record {
      done = r.done ++ ended_in r.taken (parts_of Newline chunk);
      taken = left_of r.taken (parts_of Newline chunk);
      rest = read.0;
      reader = read.1;
      stands = stands;
      whole = r.whole ∙ ap (λ bs. r.done ++ lines_behind r.taken bs) read.2
          ∙ ap (λ ls. r.done ++ ls) (lines_behind-append r.taken chunk read.0) ∙
          sym (append_assoc r.done (ended_in r.taken (parts_of Newline chunk))
          (lines_behind (left_of r.taken (parts_of Newline chunk)) read.0));
    }

-- at the end of the text its last line is left
pub Reading-end : (text : List ℕ) (before after start old : Option (List ℕ)) (s : Session)
    → (r : Reading text before start old s) → Consumes before after [] → IsAtEnd after
    → lines text ≡ r.done ++ lines_of_parts (r.taken ∷ [])
Reading-end text before after start old s r took end =
    let read = read-known r.rest [] after (subst (λ b. Consumes b after []) r.reader took) in
    let none : r.rest ≡ [] = read.2 ∙ subst IsAtEnd read.1 end in
    r.whole ∙ ap (λ bs. r.done ++ lines_behind r.taken bs) none ∙ ap (λ ls. r.done ++ ls) (lines_behind-nil r.taken)
