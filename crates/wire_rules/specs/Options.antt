-- Document 01, "Bytes on the wire": the eight bytes that both options share (`Wire`), the request, the response, the nonce's fields, what
-- is claimed of them (`Claims`).
pub mod Wire
pub mod Requests
pub mod Responses
pub mod Nonces
pub mod Claims
